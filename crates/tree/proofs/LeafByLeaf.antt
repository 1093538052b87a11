-- The listing's length is the sum of its leaves' lines: by induction on the depth of a visit, which has the lines of the leaves that it
-- is above. Assumes nothing.
use mathlib.Core.Path.{◌≡◌, refl, sym, ap, ap₂, ◌∙◌}
use mathlib.Core.Logic.{◌≢◌, ◌⊎◌, inl, inr, ⊎_elim}
use mathlib.Core.Bool.{Bool, true, false, cond}
use mathlib.Core.List.{List, [], ◌∷◌}
use Prim.Native.Nat.{ℕ, zero, suc, ◌+◌, ◌*◌, ◌≤◌}
use native.Mathlib.Omega.{arith}
use lib.ListN.{length, length-append}
use lib.Dec.{ltb, eqb}
use borrow.Author.Tests.{lt-ltb, le-ltb, ltb-true, eq-eqb, ne_eqb}
use Rattle.numbers.proofs.Cases.{some?}
use Rattle.rules.specs.WhatTheIndexDoes.{END, Profile}
use Rattle.rules.specs.Table.{Cells, Table, next, node}
use Rattle.rules.specs.Listing.{Entry, entry, listed, spelt, tried, visited, entries, lines_of, listing}
use Rattle.rules.proofs.Choices.{branch, fails}
use Rattle.rules.proofs.Digits.{length_line, lines_append, lines_one}
use Rattle.tree.specs.Soundness.{Held, a_leaf, an_inner, Sound}
use Rattle.tree.specs.Sums.{sum_to}
use Rattle.tree.proofs.Steps.{next_step, next_baseless}
use Rattle.tree.proofs.Trees.{row_low, row_used, row_pos, step_held, held_leaf}
use Rattle.tree.proofs.Sums.{sum_same, sum_none, sum_one, sum_swap, sum_unless}
use Rattle.tree.proofs.OnTheWay.{above, above_self, root_above, above_shorter, above_split, via}

-- The lines under the labels tried, label by label.
tried_length : (P : Profile) (visit : ℕ → List ℕ → List Entry) (T : Cells) (s : ℕ) (key : List ℕ) (n : ℕ) →
    length (lines_of (tried P visit T s key n)) ≡
    sum_to n (λ i. cond (eqb (next T s (listed P i)) 0) 0 (length (lines_of (visit (next T s (listed P i)) (spelt P key (listed P i))))))
unfolding tried lines_of sum_to
tried_length P visit T s key zero = refl
tried_length P visit T s key (suc n) =
    let c = listed P (suc n) in
    let below = visit (next T s c) (spelt P key c) in
    let first = cond (eqb (next T s c) 0) [] below in
    let rest = tried P visit T s key n in
    ap length (lines_append first rest) ∙ length-append (lines_of first) (lines_of rest)
    ∙ ap₂ (λ (x y : ℕ). x + y) (chosen (eqb (next T s c) 0) below) (tried_length P visit T s key n)
  where
    chosen : (b : Bool) (es : List Entry) → length (lines_of (cond b [] es)) ≡ cond b 0 (length (lines_of es))
    chosen true es = refl
    chosen false es = refl

module _ {P : Profile} {table : Table} (w : Sound P table) where
  abbrev T : Cells
  T = table.cells

  abbrev K : ℕ
  K = suc P.limit

  pub leaf_path : (u : ℕ) → 1 ≤ (T u).row → (p : List ℕ) × (node T p ≡ u) × (length p ≤ K)
  leaf_path u h = go (w.tree.reach u (row_used w.tree u h))
    where
      go : (p : List ℕ) × (node T p ≡ u) → (p : List ℕ) × (node T p ≡ u) × (length p ≤ K)
      go (p, e) = (p, e, (w.deep p (omega (arith, ap (λ (x : ℕ). (T x).row) e))).1)

  -- f tells the length of a leaf's line by the path to it.
  module _ (f : ℕ → ℕ) (weighs : (p : List ℕ) (u : ℕ) → node T p ≡ u → 1 ≤ (T u).row → f u ≡ 9 + 2 * length p) where
    -- What u adds to a visit of s.
    abbrev share : ℕ → ℕ → ℕ
    share s u = cond (ltb 0 (T u).row) (cond (above T K s u) (f u) 0) 0

    share_none : (s u : ℕ) → (1 ≤ (T u).row → above T K s u ≡ false) → share s u ≡ 0
    share_none s u h = branch (λ (y : ℕ). y ≡ 0) (ltb 0 (T u).row) (λ l. let e = h (ltb-true 0 (T u).row l) in rw e) (λ l. refl)

    module _ {s : ℕ} (q : List ℕ) (to_s : node T q ≡ s) (low : 1 ≤ s) where
      -- What a leaf adds comes by way of the children.
      leaf_split : (u : ℕ) → 1 ≤ (T u).row → u ≢ s →
          sum_to P.greatest (λ i. via w.tree K s u (f u) (listed P i)) ≡ cond (above T K s u) (f u) 0
      leaf_split u h d = let (p, e, l) = leaf_path u h in above_split w.tree q to_s low K (f u) p e (row_pos w.tree u h) l d

      -- s is a leaf: no other leaf is below it.
      leaf_only : 1 ≤ (T s).row → (u : ℕ) → u ≢ s → share s u ≡ 0
      leaf_only h u d = branch (λ (y : ℕ). y ≡ 0) (ltb 0 (T u).row)
          (λ l. sym (leaf_split u (ltb-true 0 (T u).row l) d)
          ∙ sum_none P.greatest _ (λ i a b. let z = next_baseless T s (listed P i) baseless in rw (eq-eqb (next T s (listed P i)) 0 z)))
          (λ l. refl)
        where
          baseless : (T s).base ≡ 0
          baseless = (held_leaf (w.tree.sits s (row_used w.tree s h)).held h).1

      leaf_sum : 1 ≤ (T s).row → sum_to table.size (share s) ≡ 9 + 2 * length q
      leaf_sum h =
          sum_one table.size s (share s) low (w.tree.inside s (row_used w.tree s h)) (λ u a b d. leaf_only h u d)
          ∙ rw (lt-ltb 0 (T s).row h, above_self w.tree K {s = s} refl) (weighs q s to_s h)

      -- No leaf lies below an inner cell at the greatest depth.
      deepest_sum : (T s).row ≡ 0 → length q ≡ K → sum_to table.size (share s) ≡ 0
      deepest_sum z e = sum_none table.size (share s) (λ u a b. share_none s u (λ h. fails (above T K s u) (λ o.
          let (p, v, l) = leaf_path u h in
          ⊎_elim (λ i. omega (arith, ap (λ x. (T x).row) i)) (λ m. omega arith)
          (above_shorter w.tree K q to_s low p v (row_pos w.tree u h) o))))

      -- What u adds to an inner cell, it adds to one of its children.
      inner_split : (T s).row ≡ 0 → (u : ℕ) →
          sum_to P.greatest (λ i. cond (eqb (next T s (listed P i)) 0) 0 (share (next T s (listed P i)) u)) ≡ share s u
      inner_split z u = go (some? (T u).row)
        where
          go : ((T u).row ≡ 0) ⊎ (1 ≤ (T u).row) →
              sum_to P.greatest (λ i. cond (eqb (next T s (listed P i)) 0) 0 (share (next T s (listed P i)) u)) ≡ share s u
          go (inl n) = rw (le-ltb 0 (T u).row (omega arith)) (sum_none P.greatest _ (λ i a b.
              branch (λ (y : ℕ). y ≡ 0) (eqb (next T s (listed P i)) 0) (λ l. refl) (λ l. refl)))
          go (inr h) = rw (lt-ltb 0 (T u).row h) (leaf_split u h (λ e. omega (arith, ap (λ x. (T x).row) e)))

    -- ---- a visit

    -- The characters of key are as many as the labels of q, but for an end mark.
    record Fits (s : ℕ) (q key : List ℕ) : Type 0 where
      pub to_leaf : 1 ≤ (T s).row → suc (length key) ≡ length q
      pub to_inner : (T s).row ≡ 0 → length key ≡ length q

    fits_on : {s c u : ℕ} {q key : List ℕ} → Fits s q key → (T s).row ≡ 0 → Held c (T u) → Fits u (c ∷ q) (spelt P key c)
    unfolding spelt
    fits_on {c = c} b z (a_leaf e x r) =
        record { to_leaf = λ h. rw (eq-eqb c END e) (omega (arith, b.to_inner z)); to_inner = λ v. absurd (omega (arith, row_low r)) }
    fits_on {c = c} {key = key} b z (an_inner l x r) = record {
      to_leaf = λ h. absurd (omega arith);
      to_inner = λ v. rw (ne_eqb c END (λ e. omega arith)) (omega (arith, length-append key (P.character c ∷ []), b.to_inner z));
    }

    line_length : {s : ℕ} {q key : List ℕ} → Fits s q key → 1 ≤ (T s).row → length (lines_of (entry key (T s).row ∷ [])) ≡ 9 + 2 * length q
    line_length {s} {q} {key} b h =
        ap length (lines_one (entry key (T s).row)) ∙ length_line (entry key (T s).row) ∙ omega (arith, b.to_leaf h)

    -- The lines of a visit are those of the leaves below.
    abbrev Sums : ℕ → Type 0
    Sums d = (q key : List ℕ) (s : ℕ) → node T q ≡ s → 1 ≤ s → length q + d ≡ K → Fits s q key →
        length (lines_of (visited P d T s key)) ≡ sum_to table.size (share s)

    module _ (d : ℕ) (below : Sums d) {s : ℕ} (q key : List ℕ) (to_s : node T q ≡ s) (low : 1 ≤ s) (deep : length q + suc d ≡ K)
        (b : Fits s q key) (z : (T s).row ≡ 0) where
      label_sum : (c : ℕ) → cond (eqb (next T s c) 0) 0 (length (lines_of (visited P d T (next T s c) (spelt P key c)))) ≡
          sum_to table.size (λ u. cond (eqb (next T s c) 0) 0 (share (next T s c) u))
      unfolding node
      label_sum c = go (some? (next T s c)) ∙ sum_unless (eqb (next T s c) 0) table.size (share (next T s c))
        where
          go : (next T s c ≡ 0) ⊎ (1 ≤ next T s c) →
              cond (eqb (next T s c) 0) 0 (length (lines_of (visited P d T (next T s c) (spelt P key c)))) ≡
              cond (eqb (next T s c) 0) 0 (sum_to table.size (share (next T s c)))
          go (inl n) = rw (eq-eqb (next T s c) 0 n)
          go (inr h) =
              let p = next_step T {s = s} {c = c} h in
              let on = below (c ∷ q) (spelt P key c) (next T s c) (ap (λ x. next T x c) to_s) h (omega arith) (fits_on b z (step_held w.tree p)) in
              ap (cond (eqb (next T s c) 0) 0) on

      labels_sum : length (lines_of (tried P (visited P d T) T s key P.greatest)) ≡ sum_to table.size (share s)
      labels_sum =
          tried_length P (visited P d T) T s key P.greatest
          ∙ sum_same P.greatest _ _ (λ i l u. label_sum (listed P i))
          ∙ sum_swap P.greatest table.size (λ i u. cond (eqb (next T s (listed P i)) 0) 0 (share (next T s (listed P i)) u))
          ∙ sum_same table.size _ (share s) (λ u l h. inner_split q to_s low z u)

    visit_sum : (d : ℕ) → Sums d
    unfolding visited lines_of
    visit_sum zero q key s e l v b = ⊎_elim
        (λ z. rw (le-ltb 0 (T s).row (omega arith)) (sym (deepest_sum q e l z (omega arith))))
        (λ h. rw (lt-ltb 0 (T s).row h) (line_length b h ∙ sym (leaf_sum q e l h)))
        (some? (T s).row)
    visit_sum (suc d) q key s e l v b =
        let below = visit_sum d in ⊎_elim
        (λ z. rw (le-ltb 0 (T s).row (omega arith)) (labels_sum d below q key e l v b z))
        (λ h. rw (lt-ltb 0 (T s).row h) (line_length b h ∙ sym (leaf_sum q e l h)))
        (some? (T s).row)

    -- The root is above every leaf.
    root_share : (u : ℕ) → share 1 u ≡ cond (ltb 0 (T u).row) (f u) 0
    root_share u = ⊎_elim
        (λ z. rw (le-ltb 0 (T u).row (omega arith)))
        (λ h. rw (above_everything u h))
        (some? (T u).row)
      where
        above_everything : (u : ℕ) → 1 ≤ (T u).row → above T K 1 u ≡ true
        above_everything u h = let (p, e, l) = leaf_path u h in root_above w.tree K p e (row_pos w.tree u h) l

    pub listing_sum : length (listing P T) ≡ sum_to table.size (λ u. cond (ltb 0 (T u).row) (f u) 0)
    unfolding listing entries node
    listing_sum =
        visit_sum K [] [] 1 refl (omega arith) (omega arith)
        (record { to_leaf = λ h. absurd (omega (arith, w.tree.root_row)); to_inner = λ z. refl })
        ∙ sum_same table.size (share 1) _ (λ u l h. root_share u)

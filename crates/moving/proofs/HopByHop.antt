-- The children of a cell moved one after another: what each hop asks and leaves, and what stands there once the base is stored.
-- Assumes nothing.
use mathlib.Core.Path.{◌≡◌, refl, sym, ap, ◌∙◌}
use mathlib.Core.Logic.{⊎_elim}
use mathlib.Core.List.{List, ◌∷◌, ◌++◌}
use Prim.Native.Nat.{ℕ, suc, ◌+◌, ◌≤◌}
use native.Mathlib.Omega.{arith}
use lib.ListN.{length, set, drop}
use lib.Seq.{drop_at}
use lib.IntN.{ℤ}
use borrow.Author.Tests.{eq-eqb, ne_eqb}
use Rattle.numbers.specs.Stored.{positive, plus_at}
use Rattle.numbers.proofs.Cases.{some?}
use Rattle.rules.specs.WhatTheIndexDoes.{GREATEST, document01}
use Rattle.rules.specs.Table.{Content, Cells, Table, child_codes, update}
use Rattle.rules.specs.Rendering.{base_holds}
use Rattle.rules.specs.Insertion.{relocate}
use Rattle.tree.specs.Soundness.{Step, Tree}
use Rattle.tree.specs.MovingInTurn.{hop, hops, rebase, in_turn}
use Rattle.tree.proofs.Steps.{next_step}
use Rattle.tree.proofs.UsedCells.{parentless_unused}
use Rattle.tree.proofs.TidyTables.{tidy_based}
use Rattle.tree.proofs.Trees.{no_loop}
use Rattle.tree.proofs.OneCell.{update_is}
use Rattle.tree.proofs.ChildCodes.{codes_lead, Behind, codes_behind}
use Rattle.tree.proofs.Relocation.{s_pos}
use Rattle.tree.proofs.MovingInTurn.{Midway, own_base, old_at, new_free, old_below, hops_midway, in_turn_relocates}
use Rattle.cells.specs.Edits.{Shown, celled}
use Rattle.cells.proofs.Shown.{shown_base}
use Rattle.cells.proofs.Holding.{used_inside, base_stored}
use Rattle.moving.specs.Children.{Below, Hops, Relocates}

tree_below : {T : Cells} {size : ℕ} → Tree document01 T size → (u : ℕ) → 1 ≤ u → Below T u
tree_below {T} w u h v e =
    let g = w.sits v (rw e h) in
    let p : Step T u g.code v = rw e at g.step in
    (p.based, omega (arith, p.at, g.low), omega (arith, p.at, g.high))

module _ {base₀ check₀ : List ℤ} {s q : ℕ} {codes : List ℕ} {t : Table} (h : Relocates base₀ check₀ s q codes t) where
  abbrev T : Cells
  T = t.cells

  -- The cells, and the table, once the children with these codes have moved.
  abbrev After : List ℕ → Cells
  After = hops T (T s).base q

  abbrev pub Hopped : List ℕ → Table
  Hopped cs = celled t (After cs)

  own_pos : 1 ≤ s
  own_pos = s_pos h.tree h.fit

  own_inside : s ≤ t.size
  own_inside = used_inside h.shown.table s (tidy_based h.shown.table s h.fit.old)

  own_read : plus_at base₀ s ≡ (T s).base
  own_read = shown_base h.shown s own_pos

  -- ---- a hop

  -- The child with the code suc k goes next.
  module _ (k : ℕ) (e : (T ((T s).base + suc k)).parent ≡ s) where
    abbrev old : ℕ
    old = (T s).base + suc k

    abbrev H : Cells
    H = After (child_codes T s k)

    midway : Midway h.tree h.fit k H
    midway = hops_midway h.tree h.fit k

    old_is : H old ≡ T old
    old_is = old_at h.tree h.fit k midway e

    new_parent : (H (q + suc k)).parent ≡ 0
    new_parent = ap (λ x. x.parent) (new_free h.tree h.fit k midway e)

    below : Below H old
    below v f = rw old_is (tree_below h.tree old (omega arith) v (old_below h.tree h.fit k midway e v f))

    child_hops : {base check : List ℤ} → Shown base check (celled t H) → q + suc k ≤ t.size → Hops base check old (q + suc k) (celled t H)
    child_hops sh l = record {
      shown = sh;
      far = omega (arith, h.fit.old);
      parent = rw (old_is, e) own_pos;
      apart = rw old_is (no_loop h.tree old (omega arith));
      within = rw (old_is, e) own_inside;
      below = below;
      some = omega arith;
      inside = l;
      unused = parentless_unused H (q + suc k) (λ o. omega (arith, h.fit.new)) new_parent;
    }

  -- The child with the code c goes next, those with the codes cs have gone.
  module _ {c : ℕ} {cs : List ℕ} (b : Behind T s c cs (child_codes T s GREATEST)) where
    is_child : (T ((T s).base + c)).parent ≡ s
    is_child = let m = next_step T (codes_lead T s GREATEST c b.3).2 in rw m.at at m.back

    code_hops : {base check : List ℤ} → Shown base check (Hopped cs) → Hops base check ((T s).base + c) (q + c) (Hopped cs)
    code_hops sh =
        let (k, p, r, a) = b in
        rw (p, r) (child_hops k (rw p at is_child) (rw r at sh) (rw p at (h.inside c (rw h.codes_are a))))

  -- Where the codes are some on the left, c and those of the children that have gone, c is the next.
  module _ (left : List ℕ) (c : ℕ) (gone : List ℕ) (e : left ++ c ∷ gone ≡ codes) where
    behind : Behind T s c gone (child_codes T s GREATEST)
    behind = codes_behind T s GREATEST (length left)
        (ap (drop (length left)) (sym (e ∙ h.codes_are)) ∙ drop_at left (c ∷ gone) (length left) refl)

    pub code_small : c ≤ GREATEST
    code_small = (codes_lead T s GREATEST c behind.3).1

    -- b is what base has for s.
    module _ {b : ℕ} (is : b ≡ plus_at base₀ s) {base check : List ℤ} where
      pub hop_asks : Shown base check (Hopped gone) → Hops base check (b + c) (q + c) (Hopped gone)
      hop_asks sh = rw (is ∙ own_read) (code_hops behind sh)

      pub hop_leaves : Shown base check (celled t (hop (After gone) (b + c) (q + c))) → Shown base check (Hopped (c ∷ gone))
      unfolding hops
      hop_leaves sh = rw (is ∙ own_read) at sh

  -- ---- the end

  abbrev last : Cells
  last = After (child_codes T s GREATEST)

  -- What s holds with the base q.
  abbrev X : Content
  X = record { parent = (last s).parent; base = q; row = (last s).row }

  relocate_is : relocate T s q ≡ update last s X
  unfolding in_turn rebase
  relocate_is = sym (in_turn_relocates h.tree s q h.fit) ∙ update_is last s X (rw (eq-eqb s s refl)) (λ v d. rw (ne_eqb v s d))

  own_based : 1 ≤ (last s).base
  own_based = rw (own_base h.tree h.fit GREATEST (hops_midway h.tree h.fit GREATEST)) h.fit.old

  module _ {base check : List ℤ} (sh : Shown base check (celled t last)) where
    -- A cell with a base has no row.
    own_rowless : (last s).row ≡ 0
    own_rowless = ⊎_elim (λ z. z) (λ r. absurd (omega (arith, own_based, sh.table.one_kind s r))) (some? (last s).row)

    own_holds : base_holds X ≡ positive q
    unfolding base_holds
    own_holds = rw (eq-eqb _ _ own_rowless)

    pub base_set : Shown (set base s (positive q)) check (celled t (relocate T s q))
    base_set = rw (relocate_is, ← own_holds)
        (base_stored sh s X own_pos (tidy_based sh.table s own_based) refl (λ r. absurd (omega (arith, own_rowless))))

-- On a sound table the walk of find gives the row that the table holds, and find answers as the plain list does. Assumes
-- nothing.
use mathlib.Core.Path.{◌≡◌, refl, sym, ap, ◌∙◌}
use mathlib.Core.Logic.{⊎_elim}
use mathlib.Core.Bool.{Bool, true, false, cond, ◌&&◌, true≢false}
use mathlib.Core.List.{List, [], ◌∷◌, map, reverse}
use Prim.Native.Nat.compare
use Prim.Native.Nat.{ℕ, ◌+◌, ◌≤◌}
use native.Mathlib.Omega.{arith}
use lib.ListN.{length}
use lib.IntN.{ℤ}
use lib.Dec.{leb, eqb}
use borrow.Author.Tests.{le-leb, leb-true, eq-eqb, ne_eqb, eqb-true}
use Rattle.numbers.specs.Stored.{plus_at, minus_at}
use Rattle.numbers.proofs.Cases.{some?}
use Rattle.rules.specs.Answers.{found_or_absent}
use Rattle.rules.specs.WhatTheIndexDoes.{END, Profile, RoundTrip, coded, is_identifier, is_row, labels, last_cell}
use Rattle.rules.specs.Table.{Cells, next, walk, node, lookup}
use Rattle.rules.specs.ASoundTable.{size_at, sound}
use Rattle.rules.specs.Rendering.{Kind, read_cells, read_table}
use Rattle.rules.specs.Finding.{row_of, leads, next_at, walk_at, leaf_after, leaf_at, row_found}
use Rattle.rules.specs.Listing.{Entry, entries}
use Rattle.rules.specs.Commands.{find, key_allowed, number_allowed}
use Rattle.rules.specs.Calls.{find_call}
use Rattle.rules.proofs.Walks.{walk_stops, walk_goes_on}
use Rattle.rules.proofs.Choices.{branch, branch₂, both, join}
use Rattle.tree.specs.Soundness.{Step, Tree}
use Rattle.tree.specs.Renders.{Renders}
use Rattle.tree.specs.ThePlainList.{Told, Reply, heard, replied, Agrees}
use Rattle.tree.proofs.Steps.{step_next, next_step, walk_node, lookup_row}
use Rattle.tree.proofs.Trees.{held_leaf, based_pos, row_used, row_pos, step_used, step_far, walk_pos}
use Rattle.tree.proofs.Identifiers.{path_labels, identifier_coded}
use Rattle.tree.proofs.Elements.{read_base, read_row, read_parent}
use Rattle.tree.proofs.SevenRules.{rules_render}
use Rattle.tree.proofs.AnyHistory.{entries_agree}

-- What a test chooses, or 0, is n: what it chooses is n, and it passes wherever n is not 0.
chosen : (b : Bool) {x n : ℕ} → (b ≡ true → x ≡ n) → (1 ≤ n → b ≡ true) → cond b x 0 ≡ n
chosen b {n = n} is passes = branch (λ y. y ≡ n) b is
    (λ f. sym (⊎_elim (λ z. z) (λ h. absurd (true≢false (sym (passes h) ∙ f))) (some? n)))

module _ {K : Kind} {P : Profile} {base check : List ℤ} (r : Renders K P base check (read_table base check)) where
  abbrev T : Cells
  T = read_cells base check

  tree : Tree P T (size_at base)
  unfolding read_table
  tree = r.table.tree

  -- ---- the row of a cell

  leaf_row : (t : ℕ) → 1 ≤ (T t).row → (leb 1 t && is_row (minus_at base t)) ≡ true
  leaf_row t h =
      let pos = row_pos tree t h in
      join (le-leb 1 t pos) (rw (← read_row base check t pos) (held_leaf (tree.sits t (row_used tree t h)).held h).2)

  pub row_same : (t : ℕ) → row_of base t ≡ (T t).row
  unfolding row_of
  row_same t = chosen (leb 1 t && is_row (minus_at base t))
      (λ y. sym (read_row base check t (leb-true 1 t (both (leb 1 t) _ y).0))) (leaf_row t)

  -- ---- a label

  module _ (s c : ℕ) where
    leads_step : 1 ≤ c → leads base check s c ≡ true → Step T s c (plus_at base s + c)
    unfolding leads
    leads_step low y =
        let (pos, y) = both (leb 1 s) _ y in
        let (based, y) = both (leb 1 (plus_at base s)) _ y in
        let (inside, back) = both (leb (plus_at base s + c) (last_cell base)) _ y in
        let b = read_base base check s (leb-true 1 s pos) in
        let h = leb-true 1 (plus_at base s) based in
        record { based = rw b h; at = rw b refl; back = read_parent base check _ (omega arith) ∙ eqb-true _ _ back }

    step_inside : {t : ℕ} → Step T s c t → t ≤ last_cell base
    unfolding read_table
    step_inside {t} p = omega (arith, r.fits, tree.inside t (step_used tree p))

    step_leads : {t : ℕ} → Step T s c t → leads base check s c ≡ true
    unfolding leads
    step_leads {t} p =
        let pos = based_pos tree s p.based in
        let b = read_base base check s pos in
        let at : t ≡ plus_at base s + c = p.at ∙ ap (λ (x : ℕ). x + c) b in
        let back = sym (read_parent base check t (step_far tree p)) ∙ p.back in
        join (le-leb 1 s pos) (join (le-leb 1 (plus_at base s) (rw (← b) p.based))
        (rw (← at) (join (le-leb t (last_cell base) (step_inside p)) (eq-eqb (plus_at check t) s back))))

    -- A code leads where it leads in the table. (0, the label of a character without a code, need not: check[1] is the mark, so that
    -- it leads from a root with base 1 to the root itself.)
    pub next_same : 1 ≤ c → next_at base check s c ≡ next T s c
    unfolding next_at
    next_same low = chosen (leads base check s c) (λ y. sym (step_next T (leads_step low y))) (λ h. step_leads (next_step T h))

  -- ---- the walk

  -- A walk from 0, which is no cell, leads nowhere.
  walk_nowhere : (s : ℕ) (cs : List ℕ) → s ≡ 0 → walk T s cs ≡ 0
  walk_nowhere s cs z = ⊎_elim (λ n. n) (λ h. absurd (omega (arith, walk_pos tree s cs h))) (some? (walk T s cs))

  walk_same : (s : ℕ) (key : List ℕ) → coded P key ≡ true →
      let w = walk_at base check s (map P.code key) in cond (eqb w.met (length key)) w.cell 0 ≡ walk T s (map P.code key)
  unfolding walk coded walk_at
  walk_same s [] k = refl
  walk_same s (b ∷ bs) k =
      let (low, k) = both (leb 1 (P.code b)) (coded P bs) k in
      let t = next T s (P.code b) in
      let on = map P.code bs in
      let to = sym (next_same s (P.code b) (leb-true 1 (P.code b) low)) in
      ⊎_elim
      (λ z. rw (walk_stops base check s (P.code b) on to z, ne_eqb 0 (length (b ∷ bs)) (λ e. omega arith)) (sym (walk_nowhere t on z)))
      (λ h. rw (walk_goes_on base check s (P.code b) on to h) (simp compare.suc-suc (walk_same t bs k)))
      (some? t)

  pub next_reached : (b : Bool) (s : ℕ) → cond b (next_at base check s END) 0 ≡ next_at base check (cond b s 0) END
  unfolding next_at leads
  next_reached true s = refl
  next_reached false s = refl

  leaf_same : (key : List ℕ) → coded P key ≡ true → leaf_at base check P key ≡ node T (reverse (labels P key))
  unfolding leaf_at leaf_after node
  leaf_same key k =
      let codes = map P.code key in
      let w = walk_at base check 1 codes in
      let cell = walk_same 1 key k ∙ walk_node T codes [] in
      next_reached (eqb w.met (length key)) w.cell ∙ ap (λ (s : ℕ). next_at base check s END) cell ∙ next_same (node T (reverse codes)) END (omega arith) ∙ ap (node T) (sym (path_labels P key))

  -- A row is found only where every character was.
  all_reached : (b : Bool) (s : ℕ) → 1 ≤ row_of base (cond b (next_at base check s END) 0) → cond b s 0 ≡ s
  unfolding row_of
  all_reached true s h = refl
  all_reached false s h = absurd (omega arith)

  pub reached_node : (key : List ℕ) → coded P key ≡ true → 1 ≤ row_found base check P key →
      node T (reverse (map P.code key)) ≡ (walk_at base check 1 (map P.code key)).cell
  unfolding row_found leaf_at leaf_after node
  reached_node key k h =
      let codes = map P.code key in
      let w = walk_at base check 1 codes in
      sym (walk_same 1 key k ∙ walk_node T codes []) ∙ all_reached (eqb w.met (length key)) w.cell h

  pub rendered_row : (key : List ℕ) → coded P key ≡ true → row_found base check P key ≡ lookup P T key
  unfolding row_found
  rendered_row key k = row_same (leaf_at base check P key) ∙ ap (λ (t : ℕ). (T t).row) (leaf_same key k) ∙ sym (lookup_row T P key)

module _ (P : Profile) (base check : List ℤ) (e : sound P base check ≡ true) where
  -- The walk's row is the table's, for every string of characters that have codes, as an identifier's have.
  pub found_row : (key : List ℕ) → coded P key ≡ true → row_found base check P key ≡ lookup P (read_cells base check) key
  found_row = rendered_row (rules_render P base check e)

  -- ---- the call

  -- The answer is that of any plain list that agrees with the table, whatever the list is told of placements.
  pub find_plain : {last : ℕ} {es : List Entry} → Agrees P last (read_table base check) es → (news : Told) (key : List ℕ) →
      find_call P base check key ≡ (replied P news es (find key)).answer
  unfolding find_call replied heard key_allowed number_allowed read_table
  find_plain a news key = rw (rules_render P base check e).lengths (branch₂ (λ x (y : Reply). x ≡ y.answer) (is_identifier P key)
      (λ k. ap found_or_absent (found_row key (identifier_coded P key k) ∙ a.rows key))
      (λ _. refl))

  -- The table's own listing is such a list.
  pub find_listed : RoundTrip P → (news : Told) (key : List ℕ) →
      find_call P base check key ≡ (replied P news (entries P (read_cells base check)) (find key)).answer
  unfolding read_table
  find_listed trip = let r = rules_render P base check e in find_plain (entries_agree trip (last_cell base) r.table r.fits)

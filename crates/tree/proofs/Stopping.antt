-- Where the walk along an identifier stops, the insertion begins: at that cell, with the label that leads nowhere and those behind
-- it. Assumes nothing.
use mathlib.Core.Path.{◌≡◌, refl, sym, ap, ◌∙◌}
use mathlib.Core.Logic.{⊎_elim}
use mathlib.Core.Bool.{true, cond}
use mathlib.Core.List.{List, [], ◌∷◌, map}
use Prim.Native.Nat.compare
use Prim.Native.Nat.{ℕ, suc, ◌≤◌}
use native.Mathlib.Omega.{arith}
use lib.ListN.{length, drop}
use lib.IntN.{ℤ}
use lib.Dec.{leb, eqb}
use borrow.Author.Tests.{leb-true, eq-eqb, ne_eqb}
use Rattle.numbers.proofs.Cases.{some?}
use Rattle.rules.specs.WhatTheIndexDoes.{END, Profile, RoundTrip, coded, labels}
use Rattle.rules.specs.Table.{Cells, next}
use Rattle.rules.specs.ASoundTable.{size_at}
use Rattle.rules.specs.Rendering.{Kind, read_cells, read_table}
use Rattle.rules.specs.Finding.{Reached, row_of, next_at, walk_at, leaf_after}
use Rattle.rules.specs.Insertion.{extend, insert_from}
use Rattle.rules.proofs.Walks.{walk_stops, walk_goes_on}
use Rattle.rules.proofs.Choices.{both}
use Rattle.tree.specs.Soundness.{Tree}
use Rattle.tree.specs.Renders.{Renders}
use Rattle.tree.specs.Labels.{first_label, further_labels}
use Rattle.tree.proofs.Steps.{next_step}
use Rattle.tree.proofs.Trees.{held_onward, held_end, step_held}
use Rattle.tree.proofs.Finding.{next_same, row_same, next_reached}

module _ {K : Kind} {P : Profile} {base check : List ℤ} (r : Renders K P base check (read_table base check)) where
  abbrev T : Cells
  T = read_cells base check

  tree : Tree P T (size_at base)
  unfolding read_table
  tree = r.table.tree

  -- ---- an identifier without a row

  -- The end mark leads to a leaf, which has a row.
  end_row : (s : ℕ) → 1 ≤ next_at base check s END → 1 ≤ row_of base (next_at base check s END)
  end_row s h =
      let e = next_same r s END (omega arith) in
      rw (row_same r (next_at base check s END), e) (held_end (step_held tree (next_step T {s = s} {c = END} (rw e at h))) refl)

  pub leaf_none : (n : ℕ) (w : Reached) → row_of base (leaf_after base check n w) ≡ 0 → leaf_after base check n w ≡ 0
  unfolding leaf_after
  leaf_none n w z = ⊎_elim (λ e. e)
      (λ h.
      let e = next_reached r (eqb w.met n) w.cell in
      absurd (omega (arith, z, rw (← e) at (end_row (cond (eqb w.met n) w.cell 0) (rw e at h)))))
      (some? (cond (eqb w.met n) (next_at base check w.cell END) 0))

  leaf_on : (n : ℕ) (w : Reached) → leaf_after base check (suc n) (record { cell = w.cell; met = suc w.met }) ≡ leaf_after base check n w
  unfolding leaf_after
  leaf_on n w = simp compare.suc-suc

  -- ---- the stop

  -- The walk from s along key stopped as w says: the label there leads nowhere, and the insertion's course begins with it.
  pub record Stops (last n s : ℕ) (key : List ℕ) (w : Reached) : Type 0 where
    pub some : w.met ≤ length key
    pub based : 1 ≤ (T w.cell).base
    pub nowhere : next T w.cell (first_label P (drop w.met key)) ≡ 0
    pub begins : insert_from P last T (size_at base) s (labels P key) n
        ≡ extend P last T (size_at base) w.cell (first_label P (drop w.met key)) (further_labels P (drop w.met key)) n

  module _ (trip : RoundTrip P) (last n : ℕ) where
    here : (s : ℕ) (key : List ℕ) → 1 ≤ (T s).base → next T s (first_label P key) ≡ 0 → Stops last n s key (record { cell = s; met = 0 })
    unfolding insert_from first_label further_labels labels
    here s [] based z = record { some = omega arith; based = based; nowhere = z; begins = rw (eq-eqb _ _ z) refl }
    here s (b ∷ bs) based z = record { some = omega arith; based = based; nowhere = z; begins = rw (eq-eqb _ _ z) refl }

    further : (s b : ℕ) (bs : List ℕ) (w : Reached) → 1 ≤ next T s (P.code b) → Stops last n (next T s (P.code b)) bs w →
        Stops last n s (b ∷ bs) (record { cell = w.cell; met = suc w.met })
    unfolding insert_from labels
    further s b bs w h k = record {
      some = omega (arith, k.some);
      based = k.based;
      nowhere = k.nowhere;
      begins = rw (ne_eqb (next T s (P.code b)) 0 (λ e. omega arith)) k.begins;
    }

    pub walk_begins : (s : ℕ) (key : List ℕ) → coded P key ≡ true → 1 ≤ (T s).base → let w = walk_at base check s (map P.code key) in
        leaf_after base check (length key) w ≡ 0 → Stops last n s key w
    unfolding walk_at leaf_after coded first_label
    walk_begins s [] k based z = here s [] based (sym (next_same r s END (omega arith)) ∙ z)
    walk_begins s (b ∷ bs) k based z =
        let (low, k) = both (leb 1 (P.code b)) (coded P bs) k in
        let l = leb-true 1 (P.code b) low in
        let to = sym (next_same r s (P.code b) l) in
        let on = map P.code bs in
        ⊎_elim
        (λ e. rw (walk_stops base check s (P.code b) on to e) (here s (b ∷ bs) based e))
        (λ h.
        let e = walk_goes_on base check s (P.code b) on to h in
        let based = held_onward (step_held tree (next_step T h)) (trip.unmarked b l) in
        let gone = sym (leaf_on (length bs) (walk_at base check (next T s (P.code b)) on)) ∙ ap (leaf_after base check (length (b ∷ bs))) (sym e) ∙ z in
        rw e (further s b bs _ h (walk_begins (next T s (P.code b)) bs k based gone)))
        (some? (next T s (P.code b)))

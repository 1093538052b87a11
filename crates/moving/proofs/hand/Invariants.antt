-- `hand` hands the children of a cell to another. The loop's invariant: the arrays show those up to the cell b + k handed over.
-- The measure is what is left to the greatest code. Assumes nothing.
use mathlib.Core.Path.{◌≡◌, sym, ap, ◌∙◌}
use mathlib.Core.Bool.{true, false}
use mathlib.Core.List.{List}
use Prim.Native.Nat.{ℕ, suc, ◌+◌, ◌-◌, ◌≤◌}
use native.Mathlib.Omega.{arith}
use lib.ListN.{set}
use lib.IntN.{ℤ}
use lib.Dec.{eqb}
use borrow.Author.Tests.{eqb-true, eqb-false}
use Rattle.numbers.specs.Stored.{positive, plus_at}
use Rattle.rules.specs.WhatTheIndexDoes.{GREATEST}
use Rattle.rules.specs.Table.{Cells, Table}
use Rattle.tree.proofs.TidyTables.{tidy_based}
use Rattle.cells.specs.Edits.{Shown, celled}
use Rattle.cells.proofs.Shown.{shown_base, shown_parent}
use Rattle.cells.proofs.Holding.{used_inside, parent_stored}
use Rattle.moving.specs.Children.{handed, Hands}
use Rattle.moving.proofs.Handing.{handed_to, handed_none, handed_start, handed_end, handed_ahead, handed_same, handed_more}
use Rattle.moving.proofs.hand.Given as goal

module _ {base check₀ : List ℤ} {old new : ℕ} {t : Table} (h : Hands base check₀ old new t) where
  abbrev pub T : Cells
  T = t.cells

  -- The table with the children up to the cell n handed over.
  abbrev pub To : ℕ → Table
  To n = celled t (handed_to T old new n)

  module _ {b : ℕ} (is : b ≡ plus_at base old) where
    pub based : b ≡ (T old).base
    based = is ∙ shown_base h.shown old (omega (arith, h.far))

    pub inside : 1 ≤ b → old ≤ t.size
    inside l = used_inside h.shown.table old (tidy_based h.shown.table old (rw (← based) l))

    pub none : b ≡ 0 → Shown base check₀ (celled t (handed T old new))
    none z = rw (handed_none T old new (λ v e. omega (arith, based, h.below v e))) h.shown

    pub starts : Shown base check₀ (To b)
    starts = rw (handed_start T old new b (λ v l e. omega (arith, based, h.below v e))) h.shown

    pub ends : {check : List ℤ} → Shown base check (To (b + GREATEST)) → Shown base check (celled t (handed T old new))
    ends s = rw (handed_end T old new (b + GREATEST) (λ v l e. omega (arith, based, h.below v e))) at s

  -- Of the next cell check tells whether it is a child.
  module _ {check : List ℤ} (n : ℕ) (l : 1 ≤ n) (s : Shown base check (To n)) where
    pub tells : plus_at check (suc n) ≡ (T (suc n)).parent
    tells = shown_parent s (suc n) (λ e. omega arith) ∙ ap (λ x. x.parent) (handed_ahead T old new n)

    pub hand_passes : eqb (plus_at check (suc n)) old ≡ false → Shown base check (To (suc n))
    hand_passes e = rw (handed_same T old new n (λ f. eqb-false _ _ e (tells ∙ f))) s

    pub hand_stores : eqb (plus_at check (suc n)) old ≡ true → Shown base (set check (suc n) (positive new)) (To (suc n))
    hand_stores e =
        let p : (T (suc n)).parent ≡ old = sym tells ∙ eqb-true _ _ e in
        let k : 1 ≤ (handed_to T old new n (suc n)).parent = rw (handed_ahead T old new n, p) (omega (arith, h.far)) in
        rw (handed_more T old new n p) (parent_stored s (suc n) new (omega arith) k h.some)

-- The children up to the cell b + k have been handed over.
pub record Underway (base check₀ check : List ℤ) (old new b k : ℕ) : Type 0 where
  pub some : 1 ≤ b
  pub few : k ≤ GREATEST
  pub shows : (t : Table) (h : Hands base check₀ old new t) → Shown base check (To h (b + k))

abbrev pub invariant-loop-k : goal.invariant-loop-k
invariant-loop-k l = Underway l.base l.initial.check l.check l.old.0 l.new.0 l.b (l.k - 1)

-- `relocate` moves the children of a cell to another base. The loop's invariant: the arrays show the table after the moves of the
-- children whose codes the iterator has given, from the last code on. Assumes nothing.
use mathlib.Core.Path.{◌≡◌}
use mathlib.Core.List.{List, ◌++◌}
use Prim.Native.Nat.{ℕ}
use lib.ListN.{length}
use lib.IntN.{ℤ}
use Rattle.rules.specs.Table.{Table}
use Rattle.cells.specs.Edits.{Shown}
use Rattle.moving.specs.Children.{Relocates}
use Rattle.moving.proofs.HopByHop.{Hopped}
use Rattle.moving.proofs.relocate.Given as goal

-- The codes on the left are still to come; the children with those behind them have gone.
pub record Underway (base₀ check₀ : List ℤ) (s q : ℕ) (codes : List ℕ) (base check : List ℤ) (left : List ℕ) : Type 0 where
  pub gone : List ℕ
  pub all : left ++ gone ≡ codes
  pub long : length base ≡ length base₀
  pub shows : (t : Table) (h : Relocates base₀ check₀ s q codes t) → Shown base check (Hopped h gone)

abbrev pub invariant-loop-code : goal.invariant-loop-code
invariant-loop-code l =
    Underway l.initial.base l.initial.check l.s.0 l.q l.codes l.base l.check l.code-iterator.iter.rest.now

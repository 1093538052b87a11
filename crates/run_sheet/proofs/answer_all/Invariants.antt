-- The loop's invariant: at its head the desk is the one with which the program began, or what a turn left. Assumes nothing.
use Rattle.std.specs.Prelude.{◌≡◌, ◌⊎◌, ℕ, Result}
use Rattle.run_sheet.specs.declared.Desk.{Desk}
use Rattle.run_sheet.specs.declared.Failure.{Failure}
use Rattle.run_sheet.specs.Turns.{PartTaken}
use Rattle.run_sheet.proofs.answer_all.Given as goal

-- The desk is as a turn left it that was not the last.
pub record LeftByATurn (d' : Desk) : Type 0 where
  pub d : Desk
  pub got : Result ℕ Failure
  pub lines : ℕ
  pub taken : PartTaken d got d' lines

abbrev pub invariant-loop : goal.invariant-loop
invariant-loop l = (l.desk ≡ l.initial.desk) ⊎ LeftByATurn l.desk

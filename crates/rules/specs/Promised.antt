-- The form of a promise: a field for each thing that is determined, each an equation with a total function of what was lent and
-- given at entry. The public calls promise one of these.
use Rattle.std.specs.Prelude.{◌≡◌, List, ℕ, ℤ}
use Rattle.rules.specs.Calls.{Edited, Written, Ran}
use Rattle.rules.specs.Answers.{Answer}

-- A call that reads the arrays: its answer r is a.
pub record Answers (a r : Answer) : Type 0 where
  pub answer : r ≡ a

-- A call that may edit the arrays: its answer, and every element of both arrays at exit.
pub record Edits (e : Edited) (r : Answer) (base check : List ℤ) : Type 0 where
  pub answer : r ≡ e.answer
  pub base_is : base ≡ e.base
  pub check_is : check ≡ e.check

-- A call that may write into a buffer: its answer, and every byte of the buffer at exit.
pub record Writes (w : Written) (r : Answer) (out : List ℕ) : Type 0 where
  pub answer : r ≡ w.answer
  pub out_is : out ≡ w.out

-- A run: its answer, every element of both arrays and every byte of the buffer at exit.
pub record Runs (x : Ran) (r : Answer) (base check : List ℤ) (out : List ℕ) : Type 0 where
  pub answer : r ≡ x.answer
  pub base_is : base ≡ x.base
  pub check_is : check ≡ x.check
  pub out_is : out ≡ x.out

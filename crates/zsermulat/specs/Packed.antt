-- How an answer is handed to C, and the promises of the calls with the answer in that form. `Packs` says that nothing is lost: both
-- of the answer's numbers come back.
use Rattle.std.specs.Prelude.{◌≡◌, List, ℕ, ◌+◌, ◌*◌, ◌/◌, ◌%◌, ℤ}
use Rattle.rules.specs.Answers.{Answer, number, value}
use Rattle.rules.specs.Calls.{Edited, Written, Ran}

-- 2^60: the value has the lower 60 bits, the answer's number the 4 above them.
abbrev pub PLACE : ℕ
PLACE = 1152921504606846976

unfoldable pub packed : Answer → ℕ
packed a = number a * PLACE + value a

-- What the header's zs_number and zs_value give of a packed answer.
unfoldable pub number_in : ℕ → ℕ
number_in w = w / PLACE

unfoldable pub value_in : ℕ → ℕ
value_in w = w % PLACE

-- w is the answer a, and tells both of its numbers.
pub record Packs (a : Answer) (w : ℕ) : Type 0 where
  pub is : w ≡ packed a
  pub number_is : number_in w ≡ number a
  pub value_is : value_in w ≡ value a

-- A call that may edit the arrays: its answer, and every element of both arrays at exit.
pub record EditsPacked (e : Edited) (w : ℕ) (base check : List ℤ) : Type 0 where
  pub answer : Packs e.answer w
  pub base_is : base ≡ e.base
  pub check_is : check ≡ e.check

-- A call that may write into a buffer: its answer, and every byte of the buffer at exit.
pub record WritesPacked (x : Written) (w : ℕ) (out : List ℕ) : Type 0 where
  pub answer : Packs x.answer w
  pub out_is : out ≡ x.out

-- A run: its answer, every element of both arrays and every byte of the buffer at exit.
pub record RunsPacked (x : Ran) (w : ℕ) (base check : List ℤ) (out : List ℕ) : Type 0 where
  pub answer : Packs x.answer w
  pub base_is : base ≡ x.base
  pub check_is : check ≡ x.check
  pub out_is : out ≡ x.out

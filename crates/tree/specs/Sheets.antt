-- A sheet by its bytes: where its first line ends, and where it may be cut; and a run in two parts.
use Rattle.std.specs.Prelude.{◌≡◌, ◌≢◌, ◌⊎◌, List, [], ◌++◌, ℕ, ◌+◌, ◌*◌, ◌-◌, ◌≤◌, ◌<◌, length, get_or, take}
use Rattle.rules.specs.Listing.{LF}
use Rattle.rules.specs.Calls.{Ran}
use Rattle.rules.specs.Answers.{counted}

-- No line feed is among these bytes.
abbrev pub Unbroken : List ℕ → Type 0
Unbroken s = (k : ℕ) → k < length s → get_or s k 0 ≢ LF

-- The first line of what is left of a sheet is its first n bytes: it ends at a line feed or at the sheet's end.
pub record FirstLine (rest : List ℕ) (n : ℕ) : Type 0 where
  pub within : n ≤ length rest
  pub unbroken : Unbroken (take n rest)
  pub ended : n < length rest → get_or rest n 0 ≡ LF

-- A part of a sheet that ends with one of its lines: no bytes, or a line feed at the end.
abbrev pub WholeLines : List ℕ → Type 0
WholeLines s = (s ≡ []) ⊎ (get_or s (length s - 1) 0 ≡ LF)

-- A line of so many bytes is longer than any well-formed one, and so is LINE, whatever they are.
abbrev pub TOO_LONG : ℕ
TOO_LONG = 523

-- ---- two runs, one after the other

-- What the whole run gives, the two runs give, of n and of m lines: the same arrays at the end, and the first's answers with the
-- second's buffer behind them.
pub record InTwoParts (whole one two : Ran) (n m : ℕ) : Type 0 where
  pub first : one.answer ≡ counted n
  pub second : two.answer ≡ counted m
  pub both : whole.answer ≡ counted (n + m)
  pub base_is : whole.base ≡ two.base
  pub check_is : whole.check ≡ two.check
  pub out_is : whole.out ≡ take (11 * n) one.out ++ two.out

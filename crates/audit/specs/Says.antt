-- A yes or no and what it is about.
use Rattle.std.specs.Prelude.{◌≡◌, Bool, true, false}

-- Yes exactly if A.
pub record Says (A : Type 0) (r : Bool) : Type 0 where
  pub yes : r ≡ true → A
  pub no : r ≡ false → A → ⊥

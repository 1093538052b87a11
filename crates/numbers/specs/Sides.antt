-- What a side of 0 is, and that there are two.
use Rattle.std.specs.Prelude.{◌≡◌, refl, List, ℕ, zero, suc, get_or, ℤ, pos}
use Rattle.numbers.specs.Stored.{positive, negative, plus_of, minus_of, plus_at, minus_at}

-- f tells what a number says on this side, of 0 it says nothing, and f_at is f at an array's element.
pub record SideLaws (f : ℤ → ℕ) (f_at : List ℤ → ℕ → ℕ) (on : ℕ → ℤ) : Type 0 where
  pub nought : f (pos 0) ≡ 0
  pub at_is : (xs : List ℤ) (i : ℕ) → f_at xs i ≡ f (get_or xs i (pos 0))
  pub back : (n : ℕ) → f (on n) ≡ n

pub plus_laws : SideLaws plus_of plus_at positive
plus_laws = record { nought = refl; at_is = λ xs i. refl; back = λ n. refl }

minus_back : (n : ℕ) → minus_of (negative n) ≡ n
minus_back zero = refl
minus_back (suc n) = refl

pub minus_laws : SideLaws minus_of minus_at negative
minus_laws = record { nought = refl; at_is = λ xs i. refl; back = minus_back }

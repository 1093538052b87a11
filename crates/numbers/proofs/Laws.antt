-- Laws of a stored number's two sides, alone and as an array's element: with these no crate above reasons about a sign. Assumes
-- nothing.
use mathlib.Core.Path.{◌≡◌, refl, sym, ap, ◌∙◌}
use mathlib.Core.Logic.{⊎_elim}
use mathlib.Core.List.{List}
use Prim.Native.Nat.{ℕ, zero, suc, ◌≤◌, ◌<◌}
use native.Mathlib.Omega.{arith}
use lib.ListN.{length, get_or, get_or-eq_default}
use lib.IntN.{ℤ, pos, negsuc}
use Rattle.numbers.proofs.Cases.{lt_or_ge}
use Rattle.numbers.specs.Stored.{negative, plus_of, minus_of}
use Rattle.numbers.specs.Sides.{minus_laws}

-- ---- one number

pub plus_negative : (n : ℕ) → plus_of (negative n) ≡ 0
plus_negative zero = refl
plus_negative (suc n) = refl

pub minus_negative : (n : ℕ) → minus_of (negative n) ≡ n
minus_negative = minus_laws.back

-- A number is on one side of 0 only.
pub one_side : (z : ℤ) → 1 ≤ plus_of z → minus_of z ≡ 0
one_side (pos n) h = refl
one_side (negsuc n) h = absurd (omega arith)

-- Two numbers with the same two sides are one.
pub sides : (y z : ℤ) → plus_of y ≡ plus_of z → minus_of y ≡ minus_of z → y ≡ z
sides (pos a) (pos b) p m = ap pos p
sides (pos a) (negsuc b) p m = absurd (omega (arith, m))
sides (negsuc a) (pos b) p m = absurd (omega (arith, m))
sides (negsuc a) (negsuc b) p m = ap negsuc (omega (arith, m))

pub other_side : (z : ℤ) → 1 ≤ minus_of z → plus_of z ≡ 0
other_side (pos n) h = absurd (omega arith)
other_side (negsuc n) h = refl

-- A number above 0 is its one side.
pub plus_is : (z : ℤ) {n : ℕ} → plus_of z ≡ n → 1 ≤ n → z ≡ pos n
plus_is (pos m) e h = ap pos e
plus_is (negsuc m) e h = absurd (omega arith)

-- A number below 0 is minus its other side.
pub minus_is : (z : ℤ) {n : ℕ} → minus_of z ≡ n → 1 ≤ n → z ≡ negative n
minus_is z {n} e h = sides z (negative n) (other_side z (rw e h) ∙ sym (plus_negative n)) (e ∙ sym (minus_negative n))

-- ---- an element, on either side: f is `plus_of` or `minus_of`

module _ (f : ℤ → ℕ) (nought : f (pos 0) ≡ 0) (xs : List ℤ) (i : ℕ) where
  pub at_past : length xs ≤ i → f (get_or xs i (pos 0)) ≡ 0
  at_past h = ap f (get_or-eq_default xs (pos 0) h) ∙ nought

  -- An element that is not 0 lies within the array.
  pub at_inside : 1 ≤ f (get_or xs i (pos 0)) → i < length xs
  at_inside h = ⊎_elim (λ l. l) (λ l. absurd (omega (arith, at_past l))) (lt_or_ge i (length xs))

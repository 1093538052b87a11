-- Choices by a test, and two tests together. Assumes nothing.
use mathlib.Core.Path.{◌≡◌, refl, sym, ◌∙◌}
use mathlib.Core.Logic.{◌≢◌, ◌⊎◌, inl, inr}
use mathlib.Core.Bool.{Bool, true, false, cond, ◌&&◌, ◌||◌, true≢false, and-false}
use Prim.Native.Nat.{ℕ, ◌≤◌}
use native.Mathlib.Omega.{arith}
use lib.Dec.{eqb}
use borrow.Author.Tests.{eqb-false}

-- ---- a choice

-- A fact of a choice, from the facts of both sides.
pub branch {ℓ} : {A : Type 0} (F : A → Type ℓ) (b : Bool) {x y : A} → (b ≡ true → F x) → (b ≡ false → F y) → F (cond b x y)
branch F true f g = f refl
branch F false f g = g refl

-- A fact of two choices by one test.
pub branch₂ {ℓ} : {A B : Type 0} (F : A → B → Type ℓ) (b : Bool) {x y : A} {v w : B} → (b ≡ true → F x v) → (b ≡ false → F y w) →
    F (cond b x y) (cond b v w)
branch₂ F true f g = f refl
branch₂ F false f g = g refl

-- ---- one test

pub fails : (s : Bool) → (s ≡ true → ⊥) → s ≡ false
fails true h = absurd (h refl)
fails false h = refl

pub passes : (s : Bool) → (s ≡ false → ⊥) → s ≡ true
passes true h = refl
passes false h = absurd (h refl)

-- After `if !r`, where r is what a test gave.
module _ {s : Bool} (r : Bool) (is : r ≡ s) where
  pub was_no : r ≡ false → s ≡ false
  was_no e = sym is ∙ e

  pub was_yes : r ≡ true → s ≡ true
  was_yes e = sym is ∙ e

-- A number that is tested not to be 0.
pub not_zero : (n : ℕ) → eqb n 0 ≡ false → 1 ≤ n
not_zero n e = let d : n ≢ 0 = eqb-false n 0 e in omega arith

-- ---- two tests

pub both : (s t : Bool) → (s && t) ≡ true → (s ≡ true) × (t ≡ true)
both true t e = (refl, e)
both false t e = absurd (true≢false (sym e))

pub join : {s t : Bool} → s ≡ true → t ≡ true → (s && t) ≡ true
join e f = rw e f

-- Two tests come to the second, if the first passes wherever the second does.
pub join_second : (s t : Bool) → (t ≡ true → s ≡ true) → (s && t) ≡ t
join_second s true h = join (h refl) refl
join_second s false h = and-false s

pub either : (s t : Bool) → (s || t) ≡ true → (s ≡ true) ⊎ (t ≡ true)
either true t e = inl refl
either false t e = inr e

pub neither : (s t : Bool) → (s || t) ≡ false → (s ≡ false) × (t ≡ false)
neither true t e = absurd (true≢false e)
neither false t e = (refl, e)

-- One of them passes, if the second does wherever the first fails.
pub otherwise : (s t : Bool) → (s ≡ false → t ≡ true) → (s || t) ≡ true
otherwise true t h = refl
otherwise false t h = h refl

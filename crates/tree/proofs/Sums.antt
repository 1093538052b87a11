-- Sums over numbers from 1 on. Assumes nothing.
use mathlib.Core.Path.{◌≡◌, refl, sym, ap, ap₂, ◌∙◌}
use mathlib.Core.Logic.{◌≢◌, ⊎_elim}
use mathlib.Core.Bool.{Bool, true, false, cond}
use Prim.Native.Nat.{ℕ, zero, suc, ◌+◌, ◌*◌, ◌-◌, ◌≤◌}
use native.Mathlib.Nat.{mul-suc}
use native.Mathlib.Numerals.{sub-one}
use native.Mathlib.Omega.{arith}
use Rattle.numbers.proofs.Cases.{same?}
use Rattle.tree.specs.Sums.{sum_to}

pub sum_zero : (n : ℕ) (f : ℕ → ℕ) → n ≡ 0 → sum_to n f ≡ 0
unfolding sum_to
sum_zero n f e = rw e

pub sum_first : (n : ℕ) (f : ℕ → ℕ) → n ≢ 0 → sum_to n f ≡ f n + sum_to (n - 1) f
unfolding sum_to
sum_first zero f d = absurd (d refl)
sum_first (suc n) f d = rw sub-one

pub sum_same : (n : ℕ) (f g : ℕ → ℕ) → ((i : ℕ) → 1 ≤ i → i ≤ n → f i ≡ g i) → sum_to n f ≡ sum_to n g
unfolding sum_to
sum_same zero f g h = refl
sum_same (suc n) f g h = ap₂ (λ (x y : ℕ). x + y) (h (suc n) (omega arith) (omega arith)) (sum_same n f g (λ i l u. h i l (omega arith)))

pub sum_none : (n : ℕ) (f : ℕ → ℕ) → ((i : ℕ) → 1 ≤ i → i ≤ n → f i ≡ 0) → sum_to n f ≡ 0
unfolding sum_to
sum_none zero f h = refl
sum_none (suc n) f h = omega (arith, h (suc n) (omega arith) (omega arith), sum_none n f (λ i l u. h i l (omega arith)))

-- Only the number a counts.
pub sum_one : (n a : ℕ) (f : ℕ → ℕ) → 1 ≤ a → a ≤ n → ((i : ℕ) → 1 ≤ i → i ≤ n → i ≢ a → f i ≡ 0) → sum_to n f ≡ f a
unfolding sum_to
sum_one zero a f l u h = absurd (omega arith)
sum_one (suc n) a f l u h = ⊎_elim
    (λ e. let z = sum_none n f (λ i j k. h i j (omega arith) (λ v. omega arith)) in omega (arith, ap f e, z))
    (λ d. let z = h (suc n) (omega arith) (omega arith) (λ v. d (sym v)) in
    omega (arith, z, sum_one n a f l (omega arith) (λ i j k. h i j (omega arith))))
    (same? a (suc n))

pub sum_most : (n m : ℕ) (f : ℕ → ℕ) → ((i : ℕ) → 1 ≤ i → i ≤ n → f i ≤ m) → sum_to n f ≤ m * n
unfolding sum_to
sum_most zero m f h = omega arith
sum_most (suc n) m f h = simp mul-suc (omega (arith, h (suc n) (omega arith) (omega arith), sum_most n m f (λ i l u. h i l (omega arith))))

sum_add : (n : ℕ) (f g : ℕ → ℕ) → sum_to n (λ i. f i + g i) ≡ sum_to n f + sum_to n g
unfolding sum_to
sum_add zero f g = refl
sum_add (suc n) f g = omega (arith, sum_add n f g)

pub sum_swap : (n m : ℕ) (f : ℕ → ℕ → ℕ) → sum_to n (λ i. sum_to m (f i)) ≡ sum_to m (λ j. sum_to n (λ i. f i j))
unfolding sum_to
sum_swap zero m f = sym (sum_none m (λ j. 0) (λ i l u. refl))
sum_swap (suc n) m f = ap (λ (x : ℕ). sum_to m (f (suc n)) + x) (sum_swap n m f) ∙ sym (sum_add m (f (suc n)) (λ j. sum_to n (λ i. f i j)))

pub sum_unless : (b : Bool) (n : ℕ) (f : ℕ → ℕ) → cond b 0 (sum_to n f) ≡ sum_to n (λ i. cond b 0 (f i))
sum_unless true n f = sym (sum_none n (λ i. 0) (λ i l u. refl))
sum_unless false n f = refl

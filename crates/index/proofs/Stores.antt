-- Two stores into n equal elements. Assumes nothing.
use mathlib.Core.Path.{◌≡◌, refl, ap, ◌∙◌}
use mathlib.Core.List.{List, [], ◌∷◌}
use Prim.Native.Nat.{ℕ, zero, suc, ◌-◌, ◌≤◌, ◌<◌}
use native.Mathlib.Omega.{arith}
use lib.ListN.{length, get_or, set, replicate}
use lib.IntN.{ℤ}

pub two_stores : (n : ℕ) (x y z : ℤ) → 2 ≤ n → set (set (replicate n z) 0 x) 1 y ≡ x ∷ y ∷ replicate (n - 2) z
two_stores zero x y z h = absurd (omega arith)
two_stores (suc zero) x y z h = absurd (omega arith)
two_stores (suc (suc n)) x y z h = rw (let e : suc (suc n) - 2 ≡ n = omega arith in e)

-- The same where each element is known by its place alone, as of the helper that the must-fail edit every_other_element_stays plants.
all_equal : (xs : List ℤ) (z : ℤ) → ((k : ℕ) → k < length xs → get_or xs k z ≡ z) → xs ≡ replicate (length xs) z
all_equal [] z h = refl
all_equal (x ∷ xs) z h =
    let first : x ≡ z = h 0 (omega arith) in
    let rest : xs ≡ replicate (length xs) z = all_equal xs z (λ k b. h (suc k) (omega arith)) in
    cc

pub two_stores_by_place : (xs : List ℤ) (x y z : ℤ) → 2 ≤ length xs → ((k : ℕ) → k < length xs → get_or xs k z ≡ z) →
    set (set xs 0 x) 1 y ≡ x ∷ y ∷ replicate (length xs - 2) z
two_stores_by_place xs x y z n h = ap (λ (l : List ℤ). set (set l 0 x) 1 y) (all_equal xs z h) ∙ two_stores (length xs) x y z n

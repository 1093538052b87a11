-- Cases of numbers. Assumes nothing.
use mathlib.Core.Path.{◌≡◌, refl}
use mathlib.Core.Logic.{◌≢◌, ◌⊎◌, inl, inr}
use mathlib.Core.List.{List, List-discrete}
use Prim.Native.Nat.{ℕ, zero, suc, ◌≤◌, ◌<◌}
use native.Mathlib.Decide.{dec_le, ℕ_discrete}
use native.Mathlib.Omega.{arith}

-- One number is below the other or not.
pub lt_or_ge : (a b : ℕ) → (a < b) ⊎ (b ≤ a)
lt_or_ge a b = go (dec_le b a)
  where
    go : Dec (b ≤ a) → (a < b) ⊎ (b ≤ a)
    go (yes h) = inr h
    go (no d) = inl (omega arith)

-- What is decided is so or not.
so_or_not : {A : Type 0} → Dec A → A ⊎ (A → ⊥)
so_or_not (yes a) = inl a
so_or_not (no d) = inr d

-- Two numbers are the same or not.
pub same? : (m n : ℕ) → (m ≡ n) ⊎ (m ≢ n)
same? m n = so_or_not (ℕ_discrete m n)

-- A number is 0 or not.
pub some? : (n : ℕ) → (n ≡ 0) ⊎ (1 ≤ n)
some? zero = inl refl
some? (suc n) = inr (omega arith)

-- Two lists of numbers are the same or not.
pub same_list? : (r p : List ℕ) → (r ≡ p) ⊎ (r ≢ p)
same_list? r p = so_or_not (List-discrete ℕ_discrete r p)

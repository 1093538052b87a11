-- Document 01, 'A sound table': rules 1 to 7 on two arrays of any contents, and fresh.
use Rattle.std.specs.Prelude.{ℕ, zero, suc, ◌+◌, ◌-◌, Bool, true, cond, not, ◌&&◌, ◌||◌, List, ◌∷◌, length, replicate, ℤ, leb, ltb, eqb}
use Rattle.numbers.specs.Stored.{positive, negative, plus_at, minus_at}
use Rattle.rules.specs.Ranges.{within, each_to, some_to, first_from}
use Rattle.rules.specs.WhatTheIndexDoes.{END, Profile, is_row, right_lengths, last_cell}

-- Whether the element i is the number n.
unfoldable pub holds : List ℤ → ℕ → ℕ → Bool
holds xs i n = eqb (plus_at xs i) n && eqb (minus_at xs i) 0

-- The size, which base[0] states.
abbrev pub size_at : List ℤ → ℕ
size_at base = plus_at base 0

-- Whether going from parent to parent reaches the root within k steps.
unfoldable pub home : List ℤ → ℕ → ℕ → Bool
home check zero t = eqb t 1
home check (suc k) t = eqb t 1 || home check k (plus_at check t)

module _ (base check : List ℤ) where
  -- A cell up to the size is used if its check is 1 or more. The root is used, and rule 4 says what its check is.
  unfoldable pub used_at : ℕ → Bool
  used_at t = within 1 (size_at base) t && (eqb t 1 || leb 1 (plus_at check t))

  -- A cell up to the size is free if its check is negative.
  unfoldable pub free_at : ℕ → Bool
  free_at t = leb 1 (minus_at check t)

  -- The next greater free cell after t; with none, size + 1.
  unfoldable pub next_free_at : ℕ → ℕ
  next_free_at t = first_from (λ u. ltb (size_at base) u || free_at u) (size_at base) (suc t)

  -- Whether s is the parent of some cell other than the root.
  unfoldable pub has_child : ℕ → Bool
  has_child s = some_to (size_at base) (λ t. leb 2 t && eqb (plus_at check t) s)

  -- The code of t below its parent.
  unfoldable pub code_at : ℕ → ℕ
  code_at t = t - plus_at base (plus_at check t)

  -- Whether a test holds of every used cell but the root.
  unfoldable pub others : (ℕ → Bool) → Bool
  others test = each_to (size_at base) (λ t. cond (leb 2 t && used_at t) (test t) true)

  -- 1. The lengths are right. base[0] is the size, from 1 to the last cell. Every cell past the size is 0 in both arrays.
  unfoldable pub rule1 : Bool
  rule1 =
      right_lengths base check
      && (within 1 (last_cell base) (size_at base)
      && each_to (last_cell base) (λ t. leb t (size_at base) || (holds base t 0 && holds check t 0)))

  -- 2. A cell up to the size is used or free. No cell there has check 0. A free cell has base 0.
  unfoldable pub rule2 : Bool
  rule2 = each_to (size_at base) (λ t. used_at t || (free_at t && holds base t 0))

  -- 3. check[0] is minus the first free cell, a free cell's check is minus the next greater free cell, and the last link is
  -- minus (size + 1). With no free cell, check[0] is minus (size + 1).
  unfoldable pub rule3 : Bool
  rule3 =
      eqb (minus_at check 0) (next_free_at 0)
      && each_to (size_at base) (λ t. used_at t || eqb (minus_at check t) (next_free_at t))

module _ (P : Profile) (base check : List ℤ) where
  -- 4. Cell 1 is the root. check[1] is 1 and base[1] is 1 or more. A root without children has base 1.
  unfoldable pub rule4 : Bool
  rule4 =
      holds check 1 P.mark
      && (leb 1 (plus_at base 1) && (has_child base check 1 || eqb (plus_at base 1) 1))

  -- 5. Any other used cell t has a parent s = check[t], a used cell other than t with positive base. The code t - base[s] lies
  -- in 1 to 38.
  unfoldable pub rule5 : Bool
  rule5 = others base check (λ t.
      used_at base check (plus_at check t)
      && (not (eqb (plus_at check t) t)
      && (leb 1 (plus_at base (plus_at check t)) && within 1 P.greatest (code_at base check t))))

  -- 6. The base of such a cell is negative exactly if its code is 1. It is then a leaf and its base is minus its row, the row
  -- in range. Every other used cell but the root has a positive base and at least one child.
  unfoldable pub rule6 : Bool
  rule6 = others base check (λ t.
      cond (eqb (code_at base check t) END) (is_row (minus_at base t)) (leb 1 (plus_at base t) && has_child base check t))

  -- 7. Going from parent to parent reaches the root. A leaf does so in 2 to 33 steps. (A way to the root passes no cell twice,
  -- so as many steps as there are elements are enough; the limit on top of them costs nothing and saves counting cells.)
  unfoldable pub rule7 : Bool
  rule7 = others base check (λ t.
      home check (length check + P.limit) t
      && cond (leb 1 (minus_at base t)) (home check (suc P.limit) t && not (home check 1 t)) true)

  -- Audit says yes exactly when all of these hold.
  unfoldable pub sound : Bool
  sound = rule1 base check && (rule2 base check && (rule3 base check && (rule4 && (rule5 && (rule6 && rule7)))))

-- Fresh leaves base[0] 1, base[1] 1 and 0 elsewhere.
unfoldable pub fresh_base : ℕ → List ℤ
fresh_base n = positive 1 ∷ positive 1 ∷ replicate (n - 2) (positive 0)

-- Fresh leaves check[0] -2, check[1] 1 and 0 elsewhere.
unfoldable pub fresh_check : Profile → ℕ → List ℤ
fresh_check P n = negative 2 ∷ positive P.mark ∷ replicate (n - 2) (positive 0)

-- What the audit asks of the cells one by one: rules 1, 2, 3 and 5, and what rules 6 and 7 say of a cell and its parent alone.
use Rattle.std.specs.Prelude.{◌≡◌, ◌≢◌, true, List, ℕ, ◌+◌, ◌≤◌, ◌<◌, length, ℤ}
use Rattle.numbers.specs.Stored.{plus_at, minus_at}
use Rattle.rules.specs.WhatTheIndexDoes.{END, Profile, is_row, right_lengths}
use Rattle.rules.specs.ASoundTable.{size_at, next_free_at}

-- What rule 1 says of the size.
pub record Sized (base : List ℤ) (size : ℕ) : Type 0 where
  pub is : size ≡ size_at base
  pub some : 1 ≤ size
  pub fits : size < length base

-- An array holds 0 at the element i.
pub record Nought (xs : List ℤ) (i : ℕ) : Type 0 where
  pub above : plus_at xs i ≡ 0
  pub below : minus_at xs i ≡ 0

-- What is asked of a used cell t other than the root and its parent s: rule 5 (that s is used, and another cell than t, follows
-- from what else is asked), rule 6 but for the child, and rule 7's two steps at least if t is a leaf.
pub record UsedKept (P : Profile) (base : List ℤ) (t s : ℕ) : Type 0 where
  pub inside : s ≤ size_at base
  pub based : 1 ≤ plus_at base s
  pub low : plus_at base s < t
  pub high : t ≤ plus_at base s + P.greatest
  pub leaf : t ≡ plus_at base s + END → (s ≢ 1) × (is_row (minus_at base t) ≡ true)
  pub inner : t ≢ plus_at base s + END → 1 ≤ plus_at base t

module _ (base check : List ℤ) where
  -- Rule 1: every cell past the size is 0 in both arrays.
  abbrev pub PastNought : Type 0
  PastNought = (t : ℕ) → size_at base < t → t < length base → Nought base t × Nought check t

  -- Rule 1.
  pub record FirstKept (size : ℕ) : Type 0 where
    pub lengths : right_lengths base check ≡ true
    pub sized : Sized base size
    pub past : PastNought

  -- Rules 2 and 3 at a cell that is not used: its check is minus `next`, and its base is 0.
  pub record FreeKept (t next : ℕ) : Type 0 where
    pub link : minus_at check t ≡ next
    pub bare : Nought base t

module _ (P : Profile) (base check : List ℤ) where
  -- A cell other than the root: free or used, as its check says.
  pub record CellKept (t : ℕ) : Type 0 where
    pub free : plus_at check t ≡ 0 → FreeKept base check t (next_free_at base check t)
    pub used : 1 ≤ plus_at check t → UsedKept P base t (plus_at check t)

  -- Every cell past t, up to the size.
  abbrev pub KeptPast : ℕ → Type 0
  KeptPast t = (u : ℕ) → t < u → u ≤ size_at base → CellKept u

  -- Every cell but the root, and the chain's first link, which passes over the root.
  pub record CellsKept : Type 0 where
    pub cells : KeptPast 1
    pub first : minus_at check 0 ≡ next_free_at base check 1

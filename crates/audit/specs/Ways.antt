-- The ways from parent to parent up to the root.
use Rattle.std.specs.Prelude.{◌≡◌, ◌⊎◌, Bool, true, false, List, ℕ, suc, ◌≤◌, ◌<◌, length, get_or, ℤ, leb, Option, MatchOption}
use Rattle.numbers.specs.Stored.{plus_at}
use Rattle.rules.specs.WhatTheIndexDoes.{Profile}
use Rattle.rules.specs.ASoundTable.{home, has_child}
use Rattle.audit.specs.Kept.{FirstKept}
use Rattle.audit.specs.Marks.{MarksPast}

-- The most steps that a cell of a sound table is away from the root: an identifier's characters and its end mark.
abbrev pub most : Profile → ℕ
most P = suc P.limit

-- t is d steps away from the root: it comes there within k steps exactly if d is at most k.
abbrev pub Depth : List ℤ → ℕ → ℕ → Type 0
Depth check t d = (k : ℕ) → home check k t ≡ leb d k

-- The root, or a cell with a parent.
abbrev pub Used : List ℤ → ℕ → Type 0
Used check t = (t ≡ 1) ⊎ (1 ≤ plus_at check t)

-- Every parent is a used cell.
abbrev pub Closed : List ℤ → Type 0
Closed check = (t : ℕ) → 2 ≤ t → 1 ≤ plus_at check t → Used check (plus_at check t)

-- There is a note for each cell up to the size; those of the used cells below t say how deep they lie.
pub record NotedBelow (check : List ℤ) (size t : ℕ) (depths : List ℕ) : Type 0 where
  pub long : size < length depths
  pub each : (u : ℕ) → 1 ≤ u → u < t → Used check u → Depth check u (get_or depths u 0)

-- What is known where a climb from t starts.
pub record Starts (check : List ℤ) (t : ℕ) (depths : List ℕ) : Type 0 where
  pub closed : Closed check
  pub noted : NotedBelow check t t depths
  pub far : 2 ≤ t
  pub used : 1 ≤ plus_at check t

-- A depth of t that a climb can find: no less than one step, and no more than the most.
pub record Found (P : Profile) (check : List ℤ) (t d : ℕ) : Type 0 where
  pub deep : Depth check t d
  pub some : 1 ≤ d
  pub small : d ≤ most P

-- What a climb gives: how deep t lies, or none where that is more than the most.
abbrev pub Climbed : Profile → List ℤ → ℕ → Option ℕ → Type 0
Climbed P check t r = MatchOption r (home check (most P) t ≡ false) (Found P check t)

module _ (P : Profile) (base check : List ℤ) where
  -- What is left of rules 6 and 7 at a used cell t other than the root: an inner cell has a child, and t comes to the root within
  -- the most steps.
  pub record WayKept (t : ℕ) : Type 0 where
    pub fruit : 1 ≤ plus_at base t → has_child base check t ≡ true
    pub climbs : home check (most P) t ≡ true

  -- Every used cell up to t but the root.
  abbrev pub WaysUpTo : ℕ → Type 0
  WaysUpTo t = (u : ℕ) → 2 ≤ u → u ≤ t → 1 ≤ plus_at check u → WayKept u

-- What is known before the cells are looked at for the first time: rule 1 holds, there are marks and notes enough, no mark is
-- wrong, and the root's depth is noted.
pub record FirstLook (base check : List ℤ) (size : ℕ) (parents : List Bool) (depths : List ℕ) : Type 0 where
  pub first : FirstKept base check size
  pub marks : MarksPast base check size parents
  pub notes : NotedBelow check size 2 depths

-- What is known before they are looked at for the second time: every parent is used and marked.
pub record SecondLook (base check : List ℤ) (size : ℕ) (parents : List Bool) (depths : List ℕ) : Type 0 where
  pub closed : Closed check
  pub marks : MarksPast base check 1 parents
  pub notes : NotedBelow check size 2 depths

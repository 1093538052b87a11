-- Document 01, 'Placement', the inner search: an ascending chain of free cells that ends at size + 1, and what is asked of those
-- who walk it.
use Rattle.std.specs.Prelude.{◌≡◌, Bool, true, false, ◌&&◌, List, ℕ, suc, ◌+◌, ◌≤◌, ◌<◌, length, ℤ, leb}
use Rattle.numbers.specs.Stored.{plus_at, minus_at}
use Rattle.rules.specs.WhatTheIndexDoes.{GREATEST}
use Rattle.rules.specs.Placement.{least_of, greatest_of, suits, sought}
use Rattle.tree.specs.Members.{Among}

-- Whether the cell u is used, by check. Cells past the size count as unused.
unfoldable pub taken_at : List ℤ → ℕ → ℕ → Bool
taken_at check size u = leb u size && leb 1 (plus_at check u)

-- v is the first after i of the cells that m names; with none up to the size, size + 1.
pub record Next (m : ℕ → Bool) (size i v : ℕ) : Type 0 where
  pub after : i < v
  pub within : v ≤ suc size
  pub none : (u : ℕ) → i < u → u < v → m u ≡ false
  pub named : v ≤ size → m v ≡ true

-- An ascending chain of free cells from check[0] to size + 1. m names the cells on it, and the header; free cells may be left
-- out. That they are free is in `link`: their check is negative.
pub record Chain (m : ℕ → Bool) (size : ℕ) (check : List ℤ) : Type 0 where
  pub header : m 0 ≡ true
  pub link : (u : ℕ) → u ≤ size → m u ≡ true → Next m size u (minus_at check u)

-- Codes for which a base is sought: there is one, and none is past the greatest.
pub record Codes (codes : List ℕ) : Type 0 where
  pub some : 0 < length codes
  pub small : (c : ℕ) → Among c codes → c ≤ GREATEST

-- What the search is asked: some chain stands in check.
pub record Searches (check : List ℤ) (size : ℕ) (codes : List ℕ) : Type 0 where
  pub cells : ℕ → Bool
  pub chain : Chain cells size check
  pub wanted : Codes codes
  pub small : size < 65536

-- What the search finds: whichever cells m the chain in check names, the smallest q of 1 or more whose least q + code is one of
-- them or past the size and for which every q + code is unused.
abbrev pub Finds : List ℤ → ℕ → List ℕ → ℕ → Type 0
Finds check size codes q = (m : ℕ → Bool) → Chain m size check → q ≡ sought m (taken_at check size) size codes

-- What a walk to the cell u is asked: some chain stands in check, and u lies on its way or at its end.
pub record Walks (check : List ℤ) (u : ℕ) : Type 0 where
  pub cells : ℕ → Bool
  pub size : ℕ
  pub chain : Chain cells size check
  pub some : 1 ≤ u
  pub within : u ≤ suc size

-- p is the last element below u on the chain that m names: a free cell, or the header.
pub record Before (m : ℕ → Bool) (check : List ℤ) (u p : ℕ) : Type 0 where
  pub below : p < u
  pub on : m p ≡ true
  pub reach : u ≤ minus_at check p

-- What a walk to the cell u finds: the last element below it on the chain, whichever that is.
abbrev pub Precedes : List ℤ → ℕ → ℕ → Type 0
Precedes check u p = (m : ℕ → Bool) (size : ℕ) → Chain m size check → u ≤ suc size → Before m check u p

-- r is the last cell up to the size that check holds.
pub record LastStored (check : List ℤ) (size r : ℕ) : Type 0 where
  pub inside : r < length check
  pub within : r ≤ size
  pub all : (u : ℕ) → u ≤ size → u < length check → u ≤ r

-- The search has arrived at u, which is on the chain or past the size. The bases whose least cell lies before u do not suit.
pub record Arrived (m : ℕ → Bool) (check : List ℤ) (size : ℕ) (codes : List ℕ) (u : ℕ) : Type 0 where
  pub on : u ≤ size → m u ≡ true
  pub passed : (q : ℕ) → 1 ≤ q → q + least_of codes < u → suits m (taken_at check size) size codes q ≡ false

-- What passing over is asked: some chain stands in check, and u is on it or at its end.
pub record Passes (check : List ℤ) (last span u : ℕ) : Type 0 where
  pub cells : ℕ → Bool
  pub size : ℕ
  pub chain : Chain cells size check
  pub stored : LastStored check size last
  pub small : size < 65536
  pub near : span ≤ GREATEST
  pub within : u ≤ suc size
  pub on : u ≤ size → cells u ≡ true

-- What it gives: a search that has arrived at u has arrived at r, whichever cells the chain names and for all codes that lie so far
-- apart.
pub record Passed (check : List ℤ) (last span u r : ℕ) : Type 0 where
  pub onward : u ≤ r
  pub arrives : (m : ℕ → Bool) (size : ℕ) (codes : List ℕ) → Chain m size check → LastStored check size last → 0 < length codes →
      least_of codes + span ≡ greatest_of codes → Arrived m check size codes u → Arrived m check size codes r

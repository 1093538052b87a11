-- The whole listing: each leaf's line is taken from the room; where that is enough, the listing is written from the first byte on.
-- Assumes nothing.
use mathlib.Core.Path.{◌≡◌, refl, sym, ap}
use mathlib.Core.Logic.{◌≢◌}
use mathlib.Core.Bool.{true, false}
use mathlib.Core.List.{List, []}
use Prim.Native.Nat.{ℕ, ◌+◌, ◌-◌, ◌≤◌, ◌<◌}
use native.Mathlib.Omega.{arith}
use lib.ListN.{length}
use lib.IntN.{ℤ}
use lib.Dec.{leb}
use borrow.Author.Tests.{le-leb, lt-leb, leb-true}
use Rattle.std.specs.Prelude.{Err}
use Rattle.rules.specs.declared.Refusal.TheVariants.{NoSpace}
use Rattle.rules.specs.Answers.{counted}
use Rattle.rules.specs.WhatTheIndexDoes.{document01}
use Rattle.rules.specs.ASoundTable.{sound, size_at}
use Rattle.rules.specs.Listing.{entries, listing}
use Rattle.rules.specs.Calls.{sound_list}
use Rattle.rules.specs.Promised.{Writes}
use Rattle.rules.specs.Rendering.{read_cells}
use Rattle.tree.specs.Sums.{sum_to}
use Rattle.tree.proofs.Sums.{sum_first, sum_zero}
use Rattle.listing.specs.Visiting.{DEEPEST, lines_below, Visits, Lists}
use Rattle.listing.specs.Measuring.{line_at}
use Rattle.listing.proofs.Measured.{listing_measured}

module _ (base check : List ℤ) where
  abbrev bytes : List ℕ
  bytes = listing document01 (read_cells base check)

  -- The lines of the first n cells.
  abbrev lines : ℕ → ℕ
  lines n = sum_to n (line_at base check)

  -- ---- measuring

  -- The lines of all cells but the first `left` are taken from the room.
  pub record Taken (room rest left : ℕ) : Type 0 where
    pub all : rest + lines (size_at base) ≡ room + lines left

  module _ {room rest left : ℕ} (i : Taken room rest left) where
    pub taken_all : sound document01 base check ≡ true → left ≡ 0 → true ≡ leb (length bytes) room
    taken_all whole z = sym (le-leb (length bytes) room (omega (arith, i.all, listing_measured base check whole, sum_zero left (line_at base check) z)))

    module _ (some : left ≢ 0) {n : ℕ} (is : n ≡ line_at base check left) where
      pub taken_short : sound document01 base check ≡ true → rest < n → false ≡ leb (length bytes) room
      taken_short whole h = sym (lt-leb (length bytes) room
          (omega (arith, i.all, is, listing_measured base check whole, sum_first left (line_at base check) some)))

      pub taken_on : n ≤ rest → Taken room (rest - n) (left - 1)
      taken_on h = record { all = omega (arith, i.all, is, sum_first left (line_at base check) some) }

  -- ---- writing

  pub root_visits : sound document01 base check ≡ true → {out : List ℕ} → leb (length bytes) (length out) ≡ true →
      Visits base check 1 DEEPEST [] out
  unfolding listing entries
  root_visits whole {out = out} h = record {
    whole = whole;
    short = omega arith;
    fits = record { enough = omega (arith, leb-true (length bytes) (length out) h) };
  }

  pub list_no_space : {out : List ℕ} → leb (length bytes) (length out) ≡ false → Writes (sound_list document01 base check out) (Err NoSpace) out
  unfolding sound_list
  list_no_space h = rw h (record { answer = refl; out_is = refl })

  pub list_done : {out out' : List ℕ} {r : ℕ} → leb (length bytes) (length out) ≡ true → Lists (lines_below base check 1 DEEPEST []) out out' r →
      Writes (sound_list document01 base check out) (counted r) out'
  unfolding sound_list listing entries
  list_done h w = rw h (record { answer = ap counted (omega (arith, w.end)); out_is = w.out_is })

-- `largest_used` looks from the size down for a cell that is used. Assumes nothing.
use Rattle.std.proofs.Common.{◌≡◌, ℕ, ◌+◌, ◌≤◌, ◌<◌, List, length, leb, Option, Some, None, MatchOption, take, get_or-take, length-take-le, sym, ap, ◌∙◌, ⊎_elim, arith, rules}
use Rattle.std.specs.Option.{unwrap_or}
use lib.IntN.{ℤ, pos}
use borrow.Author.Tests.{le-leb, lt-leb}
use mathlib.Core.Bool.{true≢false}
use native.Mathlib.Nat.{le_antisymm}
use Rattle.numbers.specs.Stored.{plus_of, plus_at}
use Rattle.numbers.proofs.Cases.{lt_or_ge}
use Rattle.rules.specs.Table.{Table, used, largest_used}
use Rattle.tree.proofs.LargestUsed.{largest_low, largest_high, largest_used_lem}
use Rattle.placing.proofs.TakenCells.{taken_within}
use Rattle.cells.specs.Edits.{Shown}
use Rattle.cells.proofs.Shown.{shown_size, shown_long, shown_lengths, shown_taken}
use Rattle.cells.proofs.largest_used.Goals as goal

-- Which is the last of some elements that are above 0, if there is one.
abbrev LastAbove : List ℤ → Option ℕ → Type 0
LastAbove xs r = MatchOption r
    ((k : ℕ) → k < length xs → plus_at xs k < 1)
    (λ u. (u < length xs) × (1 ≤ plus_at xs u) × ((k : ℕ) → u < k → k < length xs → plus_at xs k < 1))

module _ {base check : List ℤ} {t : Table} (s : Shown base check t) where
  inside : t.size < length check
  inside = omega (arith, shown_long s, shown_lengths s)

  -- The elements up to the size.
  abbrev front : List ℤ
  front = take (t.size + 1) check

  front_long : length front ≡ t.size + 1
  front_long = length-take-le (t.size + 1) check (omega (arith, inside))

  -- They tell whether a cell is used.
  tells : (u : ℕ) → u ≤ t.size → leb 1 (plus_at front u) ≡ used t.cells u
  tells u h =
      ap (λ (z : ℤ). leb 1 (plus_of z)) (get_or-take (t.size + 1) check u (pos 0) (omega arith))
      ∙ sym (taken_within check t.size u h) ∙ shown_taken s u

  abbrev m : ℕ
  m = largest_used t.cells t.size

  m_inside : m ≤ t.size
  m_inside = largest_low t.cells t.size s.table.some

  m_above : plus_at front m < 1 → ⊥
  m_above l = true≢false (sym (largest_used_lem t.cells t.size) ∙ sym (tells m m_inside) ∙ lt-leb 1 (plus_at front m) l)

  largest_is : (r : Option ℕ) → LastAbove front r → unwrap_or r 1 ≡ m
  largest_is None h = absurd (m_above (h m (omega (arith, front_long, m_inside))))
  largest_is (Some u) h =
      let l : u ≤ t.size = omega (arith, front_long, h.0) in
      le_antisymm
      (largest_high t.cells t.size u (sym (tells u l) ∙ le-leb 1 (plus_at front u) h.1) l)
      (⊎_elim (λ k. absurd (m_above (h.2 m k (omega (arith, front_long, m_inside))))) (λ k. k) (lt_or_ge u m))

pub slice_bounds-iter-end : goal.slice_bounds-iter-end
slice_bounds-iter-end c =
    let (t, s) = c.requires in
    let l : c.at-size.result < length c.args.check.now = omega (arith, c.at-size.ensures.is, shown_size s, inside s) in
    search rules

pub returns : goal.returns
returns c t s =
    let n = c.at-size.result in
    let h : LastAbove (take (n + 1) c.args.check.now) c.rposition-last.result = search rules in
    let e : n ≡ t.size = c.at-size.ensures.is ∙ shown_size s in
    c.unwrap_or.ensures ∙ largest_is s c.rposition-last.result (rw e at h)

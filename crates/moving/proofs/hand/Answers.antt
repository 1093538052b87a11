-- `hand` hands the children of a cell to another. Assumes nothing.
use mathlib.Core.Path.{◌≡◌, sym, ◌∙◌}
use mathlib.Core.Bool.{true, false}
use mathlib.Core.List.{List}
use Prim.Native.Nat.{ℕ, suc, ◌+◌, ◌-◌, ◌≤◌}
use native.Mathlib.Nat.{add-zero}
use native.Mathlib.Omega.{arith}
use lib.ListN.{set}
use lib.IntN.{ℤ}
use lib.Dec.{eqb}
use Rattle.numbers.specs.Stored.{positive, plus_at}
use Rattle.rules.specs.WhatTheIndexDoes.{GREATEST}
use Rattle.cells.proofs.Shown.{shown_small}
use Rattle.moving.proofs.hand.Invariants.{inside, none, starts, ends, hand_passes, hand_stores, Underway}
use Rattle.moving.proofs.hand.Goals.{then-is_at, else-is_at}
use Rattle.moving.proofs.hand.Goals as goal

-- The cell b + k is the next.
module _ {base check₀ check : List ℤ} {old new b i k : ℕ} (u : Underway base check₀ check old new b i) (next : k ≡ suc i) (l : k ≤ GREATEST) where
  ahead : b + k ≡ suc (b + i)
  ahead = omega arith

  stores : eqb (plus_at check (b + k)) old ≡ true → Underway base check₀ (set check (b + k) (positive new)) old new b k
  stores e = record {
    some = u.some;
    few = l;
    shows = λ t h. rw ahead (hand_stores h (b + i) (omega (arith, u.some)) (u.shows t h) (rw ahead at e));
  }

  passes : eqb (plus_at check (b + k)) old ≡ false → Underway base check₀ check old new b k
  passes e = record {
    some = u.some;
    few = l;
    shows = λ t h. rw ahead (hand_passes h (b + i) (omega (arith, u.some)) (u.shows t h) (rw ahead at e));
  }

pub returns-then-b-eq0 : goal.returns-then-b-eq0
returns-then-b-eq0 c t h = none h c.at-b.ensures.is c.if-b-eq0.true

pub loop-k-init : goal.loop-k-init
loop-k-init c = record {
  some = omega (arith, c.if-b-eq0.false);
  few = omega arith;
  shows = λ t h. rw add-zero (starts h c.at-b.ensures.is);
}

pub is_at-requires : goal.is_at-requires
is_at-requires c =
    let (t, h) = c.requires in
    let l = inside h c.at-b.ensures.is c.loop-k.invariant.some in
    (omega (arith, h.far), omega (arith, l, shown_small h.shown))

pub put-requires : goal.put-requires
put-requires c =
    let (t, h) = c.requires in
    omega (arith, h.inside, shown_small h.shown)

pub loop-k-preserved : goal.loop-k-preserved
loop-k-preserved c =
    let l = c.loop-k in
    let is = sym c.is_at.ensures in
    let e : l.k + 1 - 1 ≡ l.k = omega arith in
    rw e (elim c.if-is_at.branch [
      | then-is_at w ↦ rw (w.check-is, w.put.ensures) (stores l.invariant (omega arith) (omega arith) (is ∙ w.if-is_at.true))
      | else-is_at w ↦ rw w.check-is (passes l.invariant (omega arith) (omega arith) (is ∙ w.if-is_at.false))
    ])

pub returns : goal.returns
returns c t h =
    let l = c.loop-k in
    let e : l.k - 1 ≡ GREATEST = omega (arith, l.invariant.few) in
    ends h c.at-b.ensures.is (rw e at (l.invariant.shows t h))

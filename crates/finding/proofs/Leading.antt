-- Where a label leads, by the tests that it meets in turn. Assumes nothing.
use mathlib.Core.Path.{◌≡◌, refl}
use mathlib.Core.Bool.{true, false, and-false}
use mathlib.Core.List.{List}
use Prim.Native.Nat.{ℕ, ◌+◌, ◌≤◌, ◌<◌}
use native.Mathlib.Omega.{arith}
use lib.ListN.{length}
use lib.IntN.{ℤ}
use lib.Dec.{leb, eqb}
use borrow.Author.Tests.{le-leb, lt-leb, leb-true}
use Rattle.numbers.specs.Stored.{plus_of, plus_at}
use Rattle.numbers.proofs.Laws.{at_past}
use Rattle.rules.specs.WhatTheIndexDoes.{last_cell}
use Rattle.rules.specs.Finding.{leads, next_at}
use Rattle.rules.proofs.Choices.{branch, both}

-- From s with the label c.
module _ (base check : List ℤ) (s c : ℕ) where
  pub from_none : s ≡ 0 → 0 ≡ next_at base check s c
  unfolding next_at leads
  from_none z = rw z refl

  -- The base of s is q.
  module _ {q : ℕ} (based : q ≡ plus_at base s) where
    pub baseless : q ≡ 0 → 0 ≡ next_at base check s c
    unfolding next_at leads
    baseless z = rw (← based, z, and-false)

    pub past : 1 ≤ q → length base ≤ q + c → 0 ≡ next_at base check s c
    unfolding next_at leads
    past h l = rw (← based) (simp (lt-leb (q + c) (last_cell base) (omega arith), and-false))

    pub elsewhere : eqb (plus_at check (q + c)) s ≡ false → 0 ≡ next_at base check s c
    unfolding next_at leads
    elsewhere e = rw (← based, e) (simp and-false)

    pub onward : 1 ≤ s → 1 ≤ q → q + c < length base → eqb (plus_at check (q + c)) s ≡ true → q + c ≡ next_at base check s c
    unfolding next_at leads
    onward h k l e = rw (← based, e) (simp (le-leb 1 s h, le-leb 1 q k, le-leb (q + c) (last_cell base) (omega arith)))

  pub from_past : length base ≤ s → 0 ≡ next_at base check s c
  from_past h = baseless refl (at_past plus_of refl base s h)

  -- It leads to no cell past the last.
  pub next_inside : 1 ≤ length base → next_at base check s c < length base
  unfolding next_at leads
  next_inside h = branch (λ t. t < length base) (leads base check s c) within (λ _. h)
    where
      within : leads base check s c ≡ true → plus_at base s + c < length base
      within y =
          let (_, y) = both (leb 1 s) _ y in
          let (_, y) = both (leb 1 (plus_at base s)) _ y in
          let (e, _) = both (leb (plus_at base s + c) (last_cell base)) _ y in
          omega (arith, leb-true (plus_at base s + c) (last_cell base) e)

-- `collect` gives the codes of a cell's children behind another code. The loop's invariant: the codes collected, with those
-- that check has yet to tell behind them, are all of them. Assumes nothing.
use mathlib.Core.Path.{◌≡◌, refl}
use mathlib.Core.Bool.{true, false, cond}
use mathlib.Core.List.{List, [], ◌∷◌, ◌++◌}
use Prim.Native.Nat.{ℕ, zero, suc, ◌+◌, ◌≤◌}
use native.Mathlib.Omega.{arith}
use lib.ListN.{length}
use lib.IntN.{ℤ}
use lib.Dec.{eqb}
use Rattle.numbers.specs.Stored.{plus_at}
use Rattle.rules.specs.WhatTheIndexDoes.{GREATEST}
use Rattle.moving.proofs.collect.Given as goal

module _ (check : List ℤ) (b s : ℕ) where
  -- The codes from k down to 1 for which check has s at b + code.
  unfoldable pub codes_at : ℕ → List ℕ
  codes_at zero = []
  codes_at (suc k) = cond (eqb (plus_at check (b + suc k)) s) (suc k ∷ codes_at k) (codes_at k)

  pub codes_none : (k : ℕ) → k ≤ 0 → codes_at k ≡ []
  unfolding codes_at
  codes_none zero h = refl
  codes_none (suc k) h = absurd (omega arith)

  module _ (k j : ℕ) (e : k ≡ suc j) where
    pub codes_yes : eqb (plus_at check (b + k)) s ≡ true → codes_at k ≡ k ∷ codes_at j
    unfolding codes_at
    codes_yes t = rw (e, rw e at t)

    pub codes_no : eqb (plus_at check (b + k)) s ≡ false → codes_at k ≡ codes_at j
    unfolding codes_at
    codes_no t = rw (e, rw e at t)

-- The codes collected, with those up to k behind them.
pub record Underway (check : List ℤ) (b s c : ℕ) (codes : List ℕ) (k : ℕ) : Type 0 where
  pub few : length codes + k ≤ GREATEST + 1
  pub all : codes ++ codes_at check b s k ≡ c ∷ codes_at check b s GREATEST

abbrev pub invariant-loop-k : goal.invariant-loop-k
invariant-loop-k l = Underway l.check l.b l.s.0 l.c l.codes l.k

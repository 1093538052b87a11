-- `relocate` moves the children of a cell to another base. Assumes nothing.
use mathlib.Core.Path.{◌≡◌, refl, sym, ◌∙◌}
use mathlib.Core.List.{List, [], ◌∷◌, ◌++◌, append-nil}
use Prim.Native.Nat.{ℕ, ◌+◌, ◌≤◌}
use native.Mathlib.Omega.{arith}
use lib.ListN.{length, set, take, drop}
use lib.Seq.{append_snoc, take_all}
use lib.IntN.{ℤ}
use Rattle.std.proofs.Common.{rules}
use Rattle.numbers.specs.Stored.{positive, plus_at}
use Rattle.rules.specs.WhatTheIndexDoes.{GREATEST}
use Rattle.rules.specs.Table.{Table}
use Rattle.rules.specs.Insertion.{relocate}
use Rattle.rules.proofs.Texts.{none_left}
use Rattle.tree.specs.MovingInTurn.{hop, hops}
use Rattle.cells.specs.Edits.{Shown, SomeTable, EveryTable, celled}
use Rattle.moving.specs.Children.{Hops, Relocates}
use Rattle.moving.proofs.HopByHop.{Hopped, code_small, hop_asks, hop_leaves, base_set}
use Rattle.moving.proofs.relocate.Invariants.{Underway}
use Rattle.moving.proofs.relocate.Goals as goal

starts : {base₀ check₀ : List ℤ} {s q : ℕ} {codes left : List ℕ} → left ≡ codes → Underway base₀ check₀ s q codes base₀ check₀ left
unfolding hops
starts {left = left} e = record { gone = []; all = append-nil left ∙ e; long = refl; shows = λ t h. h.shown }

module _ {base₀ check₀ : List ℤ} {s q : ℕ} {codes : List ℕ} {base check : List ℤ} {left : List ℕ}
    (u : Underway base₀ check₀ s q codes base check left) where
  ends : length left ≡ 0 → (t : Table) → Relocates base₀ check₀ s q codes t →
      Shown (set base s (positive q)) check (celled t (relocate t.cells s q))
  ends z t h =
      let e : u.gone ≡ codes = (rw (none_left left (omega arith)) at u.all) in
      base_set h (rw (e, h.codes_are) at (u.shows t h))

  -- The code c is the next.
  module _ (rest : List ℕ) (c : ℕ) (step : left ≡ rest ++ c ∷ []) where
    now : rest ++ c ∷ u.gone ≡ codes
    now = sym (append_snoc rest c u.gone) ∙ (rw step at u.all)

    small : SomeTable (Relocates base₀ check₀ s q codes) → c ≤ GREATEST
    small (t, h) = code_small h rest c u.gone now

    module _ {b : ℕ} (is : b ≡ plus_at base₀ s) where
      asks : (t : Table) (h : Relocates base₀ check₀ s q codes t) → Hops base check (b + c) (q + c) (Hopped h u.gone)
      asks t h = hop_asks h rest c u.gone now is (u.shows t h)

      leaves : {base' check' : List ℤ} → length base' ≡ length base →
          EveryTable (Hops base check (b + c) (q + c)) (λ x. Shown base' check' (celled x (hop x.cells (b + c) (q + c)))) →
          Underway base₀ check₀ s q codes base' check' rest
      leaves e f = record {
        gone = c ∷ u.gone;
        all = now;
        long = e ∙ u.long;
        shows = λ t h. hop_leaves h rest c u.gone now is (f (Hopped h u.gone) (asks t h));
      }

-- The part of a slice from its start on, of all its elements.
from_start : (k n : ℕ) (xs : List ℕ) → k ≡ 0 → length xs ≤ n → take n (drop k xs) ≡ xs
from_start k n xs z h = rw z (take_all n xs h)

pub loop-code-init : goal.loop-code-init
loop-code-init c = starts (search (rules, from_start))

pub overflow_add-b : goal.overflow_add-b
overflow_add-b c =
    omega (arith, small c.loop-code.invariant _ _ c.in-Some.ensures.steps c.requires, c.at-b.ensures.small)

pub overflow_add-q : goal.overflow_add-q
overflow_add-q c =
    let (t, h) = c.requires in
    omega (arith, small c.loop-code.invariant _ _ c.in-Some.ensures.steps (t, h), h.small)

pub hop-requires : goal.hop-requires
hop-requires c =
    let (t, h) = c.requires in
    (Hopped h _, asks c.loop-code.invariant _ _ c.in-Some.ensures.steps c.at-b.ensures.is t h)

pub loop-code-preserved : goal.loop-code-preserved
loop-code-preserved c =
    leaves c.loop-code.invariant _ _ c.in-Some.ensures.steps c.at-b.ensures.is c.hop.auto.base c.hop.ensures

pub returns : goal.returns
returns c t h = rw c.put.ensures (ends c.loop-code.invariant c.in-None.ensures.steps.0 t h)

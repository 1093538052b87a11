-- `are_cells_kept` looks at the cells downwards: it asks each, keeps the free cell met last, and marks the parents. Assumes
-- nothing.
use mathlib.Core.Path.{◌≡◌, sym, subst, ◌∙◌}
use mathlib.Core.Bool.{Bool, true, false, false≢true}
use mathlib.Core.List.{List}
use Prim.Native.Nat.{ℕ, zero, suc, ◌+◌, ◌-◌, ◌≤◌}
use native.Mathlib.Numerals.{add-one, unary_clauses}
use native.Mathlib.Omega.{arith}
use lib.ListN.{get_or, set}
use lib.IntN.{ℤ}
use Rattle.numbers.specs.Stored.{positive, plus_at, minus_at}
use Rattle.numbers.proofs.Laws.{one_side}
use Rattle.rules.specs.WhatTheIndexDoes.{document01}
use Rattle.rules.specs.ASoundTable.{size_at, next_free_at}
use Rattle.audit.specs.Kept.{Sized, FreeKept, UsedKept, CellKept, CellsKept}
use Rattle.audit.specs.Marks.{MarksPast, CellsMarked}
use Rattle.audit.proofs.Says.{says_no, tested_some, tested_none}
use Rattle.audit.proofs.Downwards.{past_less}
use Rattle.audit.proofs.NextFree.{next_free_past, next_free_last, next_free_here, next_free_on}
use Rattle.audit.proofs.Marks.{mark_none, mark_parent}
use Rattle.audit.proofs.Stated.are_cells_kept.Invariants.{Looked}
use Rattle.audit.proofs.Stated.are_cells_kept.Goals as goal

-- The next free cell after the one below t, where t is free, and where it is used.
module _ (base check : List ℤ) where
  free_next : (t : ℕ) → 1 ≤ t → minus_at check t ≡ next_free_at base check t → t ≡ next_free_at base check (t - 1)
  free_next zero h e = absurd (omega arith)
  free_next (suc t) h e = simp unary_clauses (sym (next_free_here base check t (omega (arith, next_free_past base check (suc t)))))

  used_next : (t : ℕ) → 1 ≤ t → t ≤ size_at base → 1 ≤ plus_at check t → next_free_at base check t ≡ next_free_at base check (t - 1)
  used_next zero h high u = absurd (omega arith)
  used_next (suc t) h high u =
      simp unary_clauses (sym (next_free_on base check t high (one_side (get_or check (suc t) (positive 0)) u)))

module _ {base check : List ℤ} {marks : List Bool} where
  not_all : (CellsKept document01 base check → ⊥) → CellsMarked document01 base check marks false
  not_all n = record { kept = says_no n; parents = λ e. absurd (false≢true e) }

  start : {size left : ℕ} → left ≡ size → Sized base size → MarksPast base check size marks → Looked base check marks (size + 1) left
  start e s m = rw e (record {
    low = s.some;
    high = omega arith;
    kept = λ u h l. absurd (omega arith);
    parents = m;
    link = rw s.is (add-one (size_at base) ∙ sym (next_free_last base check));
  })

  -- One cell more.
  module _ {next left : ℕ} (w : Looked base check marks next left) (far : 2 ≤ left) where
    -- A cell that is not used.
    module _ (z : plus_at check left ≡ 0) where
      free_kept : FreeKept base check left next → CellKept document01 base check left
      free_kept f = record { free = λ e. subst (FreeKept base check left) w.link f; used = λ h. absurd (omega arith) }

      free_step : FreeKept base check left next → Looked base check marks left (left - 1)
      free_step f = record {
        low = omega arith;
        high = omega (arith, w.high);
        kept = past_less _ left w.kept (λ l. free_kept f);
        parents = mark_none w.parents z;
        link = free_next base check left w.low (f.link ∙ w.link);
      }

      free_not : (FreeKept base check left next → ⊥) → CellsKept document01 base check → ⊥
      free_not n k = n (subst (FreeKept base check left) (sym w.link) ((k.cells left far w.high).free z))

    -- A used cell.
    module _ {p : ℕ} (is : p ≡ plus_at check left) (some : 1 ≤ p) where
      used_kept : UsedKept document01 base left p → CellKept document01 base check left
      used_kept u = record { free = λ z. absurd (omega arith); used = λ h. rw is at u }

      used_step : UsedKept document01 base left p → Looked base check (set marks p true) next (left - 1)
      used_step u = record {
        low = omega arith;
        high = omega (arith, w.high);
        kept = past_less _ left w.kept (λ l. used_kept u);
        parents = mark_parent w.parents far w.high (sym is) u.inside;
        link = w.link ∙ used_next base check left w.low w.high (omega arith);
      }

      used_not : (UsedKept document01 base left p → ⊥) → CellsKept document01 base check → ⊥
      used_not n k = n (rw is ((k.cells left far w.high).used (omega arith)))

pub loop-t-init : goal.loop-t-init
loop-t-init c = start (omega arith) c.args.self.sized c.requires

pub returns-then-not-is_used_kept : goal.returns-then-not-is_used_kept
returns-then-not-is_used_kept c =
    let some = tested_some _ c.is_plus_in.ensures c.if-is_plus_in.true in
    not_all (used_not c.loop-t.invariant (omega arith) c.known-parent.ensures.is (omega arith)
    (c.is_used_kept.ensures.no c.if-not-is_used_kept.true))

pub loop-t-preserved-then-is_plus_in : goal.loop-t-preserved-then-is_plus_in
loop-t-preserved-then-is_plus_in c =
    let some = tested_some _ c.is_plus_in.ensures c.if-is_plus_in.true in
    let u = c.is_used_kept.ensures.yes c.if-not-is_used_kept.false in
    used_step c.loop-t.invariant (omega arith) c.known-parent.ensures.is (omega arith) u

pub returns-then-not-is_free_kept : goal.returns-then-not-is_free_kept
returns-then-not-is_free_kept c =
    let z = tested_none _ c.is_plus_in.ensures c.if-is_plus_in.false in
    not_all (free_not c.loop-t.invariant (omega arith) z (c.is_free_kept.ensures.no c.if-not-is_free_kept.true))

pub loop-t-preserved : goal.loop-t-preserved
loop-t-preserved c =
    let z = tested_none _ c.is_plus_in.ensures c.if-is_plus_in.false in
    free_step c.loop-t.invariant (omega arith) z (c.is_free_kept.ensures.yes c.if-not-is_free_kept.false)

-- `is_root_kept` decides rule 4. Assumes nothing.
use mathlib.Core.Path.{◌≡◌, ◌∙◌}
use mathlib.Core.Logic.{◌≢◌}
use mathlib.Core.Bool.{true, false, and-false, or-true, or-false}
use mathlib.Core.List.{List}
use Prim.Native.Nat.{◌≤◌}
use native.Mathlib.Omega.{arith}
use lib.ListN.{get_or}
use lib.IntN.{ℤ}
use borrow.Author.Tests.{ne_eqb, le-leb}
use Rattle.numbers.specs.Stored.{positive, plus_at}
use Rattle.numbers.proofs.Laws.{one_side}
use Rattle.rules.specs.WhatTheIndexDoes.{document01}
use Rattle.rules.specs.ASoundTable.{holds, has_child, rule4}
use Rattle.audit.proofs.Says.{as_said}
use Rattle.audit.proofs.Marks.{marks_say}
use Rattle.audit.proofs.Stated.is_root_kept.Goals as goal

module _ (base check : List ℤ) where
  other_mark : plus_at check 1 ≢ 1 → false ≡ rule4 document01 base check
  unfolding rule4 holds
  other_mark d = rw (ne_eqb (plus_at check 1) 1 d)

  baseless : plus_at base 1 ≡ 0 → false ≡ rule4 document01 base check
  unfolding rule4
  baseless z = rw (z, and-false)

  module _ (m : plus_at check 1 ≡ 1) where
    mark_holds : holds check 1 1 ≡ true
    unfolding holds
    mark_holds = rw (m, one_side (get_or check 1 (positive 0)) (omega arith))

    lone : plus_at base 1 ≡ 1 → true ≡ rule4 document01 base check
    unfolding rule4
    lone e = rw (mark_holds, e, or-true)

    grown : 2 ≤ plus_at base 1 → has_child base check 1 ≡ rule4 document01 base check
    unfolding rule4
    grown h = rw (mark_holds, le-leb 1 (plus_at base 1) (omega arith), ne_eqb (plus_at base 1) 1 (λ e. omega arith), or-false)

pub returns-then-at-ne1 : goal.returns-then-at-ne1
returns-then-at-ne1 c = other_mark _ _ (λ e. omega (arith, c.if-at-ne1.true))

pub returns-in-0 : goal.returns-in-0
returns-in-0 c = baseless _ c.args.self.check.now (omega arith)

pub returns-in-1 : goal.returns-in-1
returns-in-1 c = lone _ _ (omega arith) (omega arith)

pub returns-in_default : goal.returns-in_default
returns-in_default c =
    let m = c.requires in
    as_said _ (marks_say m 1 (omega arith)) ∙ grown _ _ (omega arith) (omega arith)

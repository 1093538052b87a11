-- `are_ways_kept` asks each used cell for its fruit and its depth, and notes the depth. Assumes nothing.
use mathlib.Core.Path.{◌∙◌}
use Prim.Native.Nat.{◌+◌}
use native.Mathlib.Omega.{arith}
use Rattle.audit.proofs.Says.{says_no, as_said, tested_some}
use Rattle.audit.proofs.Marks.{marks_say}
use Rattle.audit.proofs.Stated.are_ways_kept.Goals as goal

pub returns-then-not-has_fruit : goal.returns-then-not-has_fruit
returns-then-not-has_fruit c =
    let marked = as_said _ (marks_say c.requires.marks (c.loop-below.below + 1) (omega arith)) in
    let used = tested_some _ c.is_plus_in.ensures c.if-not-is_plus_in.false in
    says_no (λ w. c.has_fruit.ensures.no c.if-not-has_fruit.true (λ h. marked ∙ (w _ (omega arith) (omega arith) used).fruit h))

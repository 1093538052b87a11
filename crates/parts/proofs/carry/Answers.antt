-- `carry` moves the bytes to the front at once. Assumes nothing.
use mathlib.Core.Path.{ap, ◌∙◌}
use Prim.Native.Nat.{ℕ}
use native.Mathlib.Omega.{arith}
use lib.ListN.{get_or}
use Rattle.parts.proofs.Places.{carried}
use Rattle.parts.proofs.carry.Goals as goal

pub returns : goal.returns
returns c =
    carried _ _ c.args.from c.requires c.min-n.ensures c.copy_within.ensures.len
    (λ k h. c.copy_within.ensures.by_index.0 k 0 (omega arith) (omega arith) ∙ ap (λ (i : ℕ). get_or c.args.buffer.now i 0) (omega arith))

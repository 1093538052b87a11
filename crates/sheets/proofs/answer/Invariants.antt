-- `answer` reads line after line, carries it out and writes its answer to the next part of the buffer. The loop's invariant: what is still
-- to be answered comes to the whole. The measure is the length of the rest. Assumes nothing.
use mathlib.Core.Path.{◌≡◌}
use Prim.Native.Nat.{◌≤◌}
use lib.ListN.{length}
use Rattle.sheets.proofs.InTurn.{Still}
use Rattle.sheets.proofs.answer.Given as goal

abbrev pub invariant-loop-rest : goal.invariant-loop-rest
invariant-loop-rest l = (length l.key ≡ 255) × (length l.rest ≤ length l.sheet) × Still l.initial.base l.initial.check l.sheet l.initial.answers l.base l.check l.answers l.rest l.count

abbrev pub decreases-loop-rest : goal.decreases-loop-rest
decreases-loop-rest l = length l.rest

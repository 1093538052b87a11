-- `compact` trims the size, then repeats steps. The loop's invariant: the steps that are left come to what n steps from the trimmed
-- table come to. Assumes nothing.
use Rattle.rules.specs.DeletionAndCompaction.{trimmed}
use Rattle.cells.specs.Edits.{EveryTable}
use Rattle.compaction.specs.Lowering.{Steps}
use Rattle.compaction.proofs.Compacting.{Going}
use Rattle.compaction.proofs.compact.Given as goal

abbrev pub invariant-loop-made : goal.invariant-loop-made
invariant-loop-made l = EveryTable (Steps l.fn.base l.fn.check) (λ t. Going l.fn.n l.made l.base l.check (trimmed t.cells t.size))

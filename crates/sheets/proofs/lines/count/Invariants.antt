-- `count` counts line feeds, block by block, and one more for a last line that has none. The loop's invariant: those counted and those of
-- the rest are the sheet's. Assumes nothing.
use mathlib.Core.Path.{◌≡◌}
use Prim.Native.Nat.{◌+◌}
use Rattle.sheets.specs.Counting.{feeds_in}
use Rattle.sheets.proofs.lines.count.Given as goal

abbrev pub invariant-loop-block : goal.invariant-loop-block
invariant-loop-block l = (l.n + feeds_in l.block-iterator.rest.now ≡ feeds_in l.sheet) × (l.block-iterator.size ≡ 240)

-- `count` counts line feeds, block by block, and one more for a last line that has none. Assumes nothing.
use mathlib.Core.Path.{◌≡◌, ◌∙◌}
use Prim.Native.Nat.{◌+◌}
use lib.ListN.{length}
use native.Mathlib.Omega.{arith}
use Rattle.rules.specs.ARun.{sheet_lines}
use Rattle.tree.proofs.SheetLines.{lines_few}
use Rattle.sheets.proofs.Counted.{counted_on, feeds_few, all_counted}
use Rattle.sheets.proofs.lines.count.Goals as goal
use Rattle.sheets.proofs.lines.count.Goals.{After-from}

pub overflow_add-n : goal.overflow_add-n
overflow_add-n c = omega (arith, counted_on c.loop-block.block-iterator.rest.now _ c.next.new.self.rest.now c.in-Some.ensures.steps.1.0, feeds_few c.args.sheet.now)

pub loop-block-preserved : goal.loop-block-preserved
loop-block-preserved c = (omega (arith, counted_on c.loop-block.block-iterator.rest.now _ c.next.new.self.rest.now c.in-Some.ensures.steps.1.0), c.in-Some.ensures.steps.0 ∙ c.loop-block.invariant.1)

counted : (c : After-from) → c.loop-block.n + c.from.result ≡ length (sheet_lines c.args.sheet.now)
counted c = rw (c.from.ensures, c.is_unfinished.ensures) (all_counted _ _ _ c.loop-block.invariant.0 c.in-None.ensures.steps.1.0)

pub overflow_add-result : goal.overflow_add-result
overflow_add-result c = omega (arith, counted c, lines_few c.args.sheet.now)

pub returns : goal.returns
returns c = omega (arith, counted c)

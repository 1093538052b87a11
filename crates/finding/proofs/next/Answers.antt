-- `next` is `next_within`, and leads nowhere from what is no cell of the arrays. Assumes nothing.
use Rattle.std.proofs.Common.{sym, ap, ◌∙◌}
use borrow.Author.Tests.{leb-true}
use Rattle.rules.specs.Options.{some_cell}
use Rattle.finding.proofs.Leading.{from_none, from_past}
use Rattle.finding.proofs.next.Goals.{then-s-eq0-via-then-s-eq0, then-s-eq0-via-else-s-eq0+then-is_past}
use Rattle.finding.proofs.next.Goals as goal

pub returns-then-s-eq0 : goal.returns-then-s-eq0
returns-then-s-eq0 c = ap some_cell (elim c.then-s-eq0.branch [
  | then-s-eq0-via-then-s-eq0 w ↦ from_none _ _ _ _ w.if-s-eq0.true
  | then-s-eq0-via-else-s-eq0+then-is_past w ↦ from_past _ _ _ _ (leb-true _ _ (sym w.is_past.ensures ∙ w.if-is_past.true))
])

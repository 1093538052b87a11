-- `next_within` goes where the label leads, and nowhere where one of the tests fails. Assumes nothing.
use Rattle.std.proofs.Common.{sym, ap, ◌∙◌, arith}
use borrow.Author.Tests.{leb-true, leb-false}
use Rattle.rules.specs.Options.{some_cell}
use Rattle.finding.proofs.Options.{then_cell}
use Rattle.finding.proofs.Leading.{baseless, past, elsewhere, onward}
use Rattle.finding.proofs.next_within.Goals as goal

pub returns-then-q-eq0 : goal.returns-then-q-eq0
returns-then-q-eq0 c = ap some_cell (baseless _ _ _ _ c.base_of-q.ensures.is c.if-q-eq0.true)

pub returns-then-is_past : goal.returns-then-is_past
returns-then-is_past c =
    ap some_cell (past _ _ _ _ c.base_of-q.ensures.is (omega arith) (leb-true _ _ (sym c.is_past.ensures ∙ c.if-is_past.true)))

pub returns : goal.returns
returns c =
    let based = c.base_of-q.ensures.is in
    let inside = leb-false _ _ (sym c.is_past.ensures ∙ c.if-is_past.false) in
    c.then_some.ensures ∙ then_cell c.is_at.result
    (λ e. (omega arith, onward _ _ _ _ based (omega arith) (omega arith) inside (sym c.is_at.ensures ∙ e)))
    (λ e. elsewhere _ _ _ _ based (sym c.is_at.ensures ∙ e))

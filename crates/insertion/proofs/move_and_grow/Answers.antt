-- `move_and_grow` widens, moves the children, grows the rest, and goes back where a later label does not fit. Assumes nothing.
use mathlib.Core.Path.{sym, ◌∙◌}
use native.Mathlib.Omega.{arith}
use Rattle.insertion.proofs.Colliding.{there, grows, all_fit, back, shrinks, all_back}
use Rattle.insertion.proofs.move_and_grow.Goals as goal

pub relocate-requires : goal.relocate-requires
relocate-requires c = let (t, m) = c.requires in (_, there m c.widen.ensures)

pub grow-grown-requires : goal.grow-grown-requires
grow-grown-requires c = let (t, m) = c.requires in (_, grows m c.widen.ensures (omega arith) c.relocate.ensures)

pub returns-else-is_err : goal.returns-else-is_err
returns-else-is_err c = λ t m.
    all_fit m c.widen.ensures (omega arith) c.relocate.ensures c.grow-grown.ensures (sym c.is_err.ensures.value ∙ c.if-is_err.false)

-- ---- where a later label does not fit: the children go back, and the size to what it was

pub relocate-requires-then-is_err : goal.relocate-requires-then-is_err
relocate-requires-then-is_err c =
    let (t, m) = c.requires in
    let unfit = sym c.is_err.ensures.value ∙ c.if-is_err.true in
    (_, back m c.widen.ensures (omega arith) c.relocate.ensures c.grow-grown.ensures unfit c.at-b.ensures.is)

pub shrink-requires : goal.shrink-requires
shrink-requires c =
    let (t, m) = c.requires in
    let unfit = sym c.is_err.ensures.value ∙ c.if-is_err.true in (
      _,
      shrinks m c.widen.ensures (omega arith) c.relocate.ensures c.grow-grown.ensures unfit c.at-b.ensures.is
          c.relocate-then-is_err.ensures c.at-size.ensures.is,
    )

pub returns-then-is_err : goal.returns-then-is_err
returns-then-is_err c = λ t m.
    let unfit = sym c.is_err.ensures.value ∙ c.if-is_err.true in
    all_back m c.widen.ensures (omega arith) c.relocate.ensures c.grow-grown.ensures unfit c.at-b.ensures.is
    c.relocate-then-is_err.ensures c.at-size.ensures.is c.shrink.ensures

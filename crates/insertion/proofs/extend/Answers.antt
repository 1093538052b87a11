-- `extend` asks whether the node collides, and grows the rest where it does not. Assumes nothing.
use Rattle.std.proofs.lemmas.Result.{err_from_is_err_and}
use Rattle.insertion.proofs.Extending.{collides_past, collides_taken, grows, grown_done, grown_none}
use Rattle.insertion.proofs.extend.Goals as goal
use Rattle.insertion.proofs.extend.Goals.{then-base-u-via-then-base-u, then-base-u-via-else-base-u+then-at-gt0}

pub returns-then-base-u : goal.returns-then-base-u
returns-then-base-u c = λ t e.
    let x = c.collide.ensures t e in
    elim c.then-base-u.branch [
      | then-base-u-via-then-base-u w ↦ collides_past e c.at.ensures.is c.label.ensures.is x w.if-base-u.true
      | then-base-u-via-else-base-u+then-at-gt0 w ↦ collides_taken e c.at.ensures.is c.label.ensures.is x w.at-else-base-u.ensures.is w.if-at-gt0.true
    ]

pub grow-requires : goal.grow-requires
grow-requires c =
    let (t, e) = c.requires in
    (t, grows e c.at.ensures.is c.label.ensures.is c.if-base-u.false c.at-else-base-u.ensures.is c.if-at-gt0.false)

pub returns-in_err-grow : goal.returns-in_err-grow
returns-in_err-grow c = λ t e.
    let p = err_from_is_err_and c.from_residual.result c.from_residual.ensures.1 in
    rw (p.1, p.2) (grown_none e c.at.ensures.is c.label.ensures.is c.if-base-u.false c.at-else-base-u.ensures.is c.if-at-gt0.false c.in_err-grow.ensures)

pub returns : goal.returns
returns c = λ t e.
    grown_done e c.at.ensures.is c.label.ensures.is c.if-base-u.false c.at-else-base-u.ensures.is c.if-at-gt0.false c.in_ok-grow.ensures

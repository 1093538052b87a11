-- `answer` reads line after line, carries it out and writes its answer to the next part of the buffer. Assumes nothing.
use mathlib.Core.Path.{sym}
use native.Mathlib.Omega.{arith}
use lib.ListN.{length-take, length-drop}
use borrow.Author.Tests.{eqb-true}
use Rattle.rules.proofs.Choices.{not_zero}
use Rattle.sheets.proofs.InTurn.{still_last, room_left, still_more}
use Rattle.sheets.proofs.answer.Goals as goal

pub put_answer-requires : goal.put_answer-requires
put_answer-requires c =
    simp (length-take, length-drop) (omega (arith, room_left _ _ _ _ c.requires c.loop-rest.invariant.2 (not_zero _ (sym c.loop-rest-test.ensures)) c.read-end.ensures))

pub overflow_add-end : goal.overflow_add-end
overflow_add-end c = omega (arith, c.read-end.ensures.first.within)

pub loop-rest-preserved : goal.loop-rest-preserved
loop-rest-preserved c = (
  cc,
  simp (length-take, length-drop) (omega arith),
  still_more _ _ _ _ c.requires c.loop-rest.invariant.2 (not_zero _ (sym c.loop-rest-test.ensures)) c.read-end.ensures
      c.carry_out-said.ensures c.min.ensures c.put_answer.ensures,
)

pub returns : goal.returns
returns c = still_last _ _ _ _ c.requires c.loop-rest.invariant.2 (omega (arith, eqb-true _ 0 (sym c.loop-rest-test.ensures)))

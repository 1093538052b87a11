-- `run` counts the lines, and answers them where their answers have room. Assumes nothing.
use Rattle.sheets.proofs.InTurn.{no_space, all_answered}
use Rattle.sheets.proofs.run.Goals as goal

pub returns-then-answers-count : goal.returns-then-answers-count
returns-then-answers-count c = no_space _ _ _ _ (rw c.count.ensures at c.if-answers-count.true)

pub returns : goal.returns
returns c = all_answered _ _ _ _ (rw c.count.ensures at c.if-answers-count.false) c.answer.ensures

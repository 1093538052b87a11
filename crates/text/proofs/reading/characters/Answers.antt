-- `characters` reads character after character. Assumes nothing.
use mathlib.Core.Path.{◌∙◌}
use native.Mathlib.Omega.{arith}
use Rattle.text.proofs.DigitsRead.{all_spelt, not_spelt, spelling_more}
use Rattle.text.proofs.reading.characters.Goals as goal

pub returns-in_err-key : goal.returns-in_err-key
returns-in_err-key c = rw c.from_residual.ensures (not_spelt _ c.loop-i.invariant.0 _ _ c.in-Some.ensures.steps.0.1.0 c.in_err-key.ensures)

pub loop-i-preserved : goal.loop-i-preserved
loop-i-preserved c =
    let ((size, (split, long), _), index, count, _) = c.in-Some.ensures.steps in
    (rw (index, count) (spelling_more _ c.loop-i.invariant.0 _ _ split (long ∙ c.loop-i.invariant.1) c.in_ok-key.ensures), size ∙ c.loop-i.invariant.1)

pub returns : goal.returns
returns c = all_spelt _ c.loop-i.invariant.0 (omega (arith, c.in-None.ensures.steps.0.1.0, c.loop-i.invariant.1))

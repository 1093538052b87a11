-- `number` reads digit after digit. Assumes nothing.
use native.Mathlib.Omega.{arith}
use Rattle.text.proofs.DigitsRead.{numeral_read, letter_read, number_fits}
use Rattle.text.proofs.reading.number.Goals as goal
use Rattle.text.proofs.reading.number.Goals.{then-b-ge48+then-b-le57, else-b-ge48+then-b-ge97+then-b-le102}

pub overflow_add-n : goal.overflow_add-n
overflow_add-n c = omega (arith, number_fits _ c.loop-b.invariant c.loop-b-test.true c.requires)

pub overflow_add-n-then-b-le102 : goal.overflow_add-n-then-b-le102
overflow_add-n-then-b-le102 c = omega (arith, number_fits _ c.loop-b.invariant c.loop-b-test.true c.requires)

pub loop-b-preserved : goal.loop-b-preserved
loop-b-preserved c = elim c.if-b-ge48.branch [
  | then-b-ge48+then-b-le57 w ↦ numeral_read _ c.loop-b.invariant c.loop-b-test.true (omega arith) (omega arith) (omega (arith, w.n-is))
  | else-b-ge48+then-b-ge97+then-b-le102 w ↦ letter_read _ c.loop-b.invariant c.loop-b-test.true (omega arith) (omega arith) (omega (arith, w.n-is))
]

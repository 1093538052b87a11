-- `number` reads digit after digit. The loop's invariant: what is left to read comes to the whole. Assumes nothing.
use Rattle.text.proofs.DigitsRead.{Going}
use Rattle.text.proofs.reading.number.Given as goal

abbrev pub invariant-loop-b : goal.invariant-loop-b
invariant-loop-b l = Going l.digits l.n l.b-index

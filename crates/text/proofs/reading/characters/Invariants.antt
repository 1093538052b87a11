-- `characters` reads character after character. The loop's invariant: what is left to read comes to the whole. Assumes nothing.
use mathlib.Core.Path.{◌≡◌}
use Rattle.text.proofs.DigitsRead.{Spelling}
use Rattle.text.proofs.reading.characters.Given as goal

abbrev pub invariant-loop-i : goal.invariant-loop-i
invariant-loop-i l = Spelling l.digits l.key l.i-iterator.iter.rest.now l.i-iterator.count × (l.i-iterator.iter.size ≡ 2)

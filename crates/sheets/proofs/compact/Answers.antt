-- `compact` refuses too great a number, and compacts otherwise. Assumes nothing.
use mathlib.Core.Path.{refl}
use mathlib.Core.Bool.{true}
use borrow.Author.Tests.{le-leb, lt-leb}
use Rattle.rules.specs.Commands.{compact, key_allowed, number_allowed}
use Rattle.rules.specs.ARun.{answered_line}
use Rattle.tree.proofs.Answered.{answered_number, answered_sound}
use Rattle.sheets.proofs.compact.Goals as goal

pub returns-then-n-gt-MOST_MOVES : goal.returns-then-n-gt-MOST_MOVES
unfolding answered_line key_allowed number_allowed
returns-then-n-gt-MOST_MOVES c = answered_number _ _ true (compact _) refl (lt-leb _ 65535 c.if-n-gt-MOST_MOVES.true)

pub returns : goal.returns
unfolding answered_line key_allowed number_allowed
returns c = answered_sound _ _ true (compact _) refl (le-leb _ 65535 c.if-n-gt-MOST_MOVES.false) refl c.compact.ensures

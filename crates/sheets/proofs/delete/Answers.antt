-- `delete` refuses what is no identifier, and deletes otherwise. Assumes nothing.
use mathlib.Core.Path.{refl}
use mathlib.Core.Bool.{true}
use Rattle.rules.specs.Commands.{delete, key_allowed, number_allowed}
use Rattle.rules.specs.ARun.{answered_line}
use Rattle.rules.proofs.Choices.{was_no, was_yes}
use Rattle.tree.proofs.Answered.{answered_key, answered_sound}
use Rattle.sheets.proofs.delete.Goals as goal

pub returns-then-not-is_identifier : goal.returns-then-not-is_identifier
unfolding answered_line key_allowed
returns-then-not-is_identifier c = answered_key _ _ true (delete _) (was_no _ c.is_identifier.ensures c.if-not-is_identifier.true)

pub returns : goal.returns
unfolding answered_line key_allowed number_allowed
returns c = answered_sound _ _ true (delete _) (was_yes _ c.is_identifier.ensures c.if-not-is_identifier.false) refl refl c.delete.ensures

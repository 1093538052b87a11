-- `insert` refuses what is no identifier and what is no row, in that order, and inserts otherwise. Assumes nothing.
use mathlib.Core.Path.{refl}
use mathlib.Core.Bool.{true}
use Rattle.rules.specs.Commands.{insert, key_allowed, number_allowed}
use Rattle.rules.specs.ARun.{answered_line}
use Rattle.rules.proofs.Choices.{was_no, was_yes}
use Rattle.tree.proofs.Answered.{answered_key, answered_number, answered_sound}
use Rattle.sheets.proofs.insert.Goals as goal

pub returns-then-not-is_identifier : goal.returns-then-not-is_identifier
unfolding answered_line key_allowed
returns-then-not-is_identifier c = answered_key _ _ true (insert _ _) (was_no _ c.is_identifier.ensures c.if-not-is_identifier.true)

pub returns-then-not-is_row : goal.returns-then-not-is_row
unfolding answered_line key_allowed number_allowed
returns-then-not-is_row c =
    let named = was_yes _ c.is_identifier.ensures c.if-not-is_identifier.false in
    answered_number _ _ true (insert _ _) named (was_no _ c.is_row.ensures c.if-not-is_row.true)

pub returns : goal.returns
unfolding answered_line key_allowed number_allowed
returns c =
    let named = was_yes _ c.is_identifier.ensures c.if-not-is_identifier.false in
    answered_sound _ _ true (insert _ _) named (was_yes _ c.is_row.ensures c.if-not-is_row.false) refl c.insert.ensures

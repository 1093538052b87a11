-- `find` refuses what is no identifier, and walks otherwise. Assumes nothing.
use mathlib.Core.Path.{ap, ◌∙◌}
use mathlib.Core.Bool.{true}
use Rattle.rules.specs.WhatTheIndexDoes.{document01}
use Rattle.rules.specs.Commands.{find, key_allowed}
use Rattle.rules.specs.ARun.{answered_line}
use Rattle.rules.proofs.Choices.{was_no, was_yes}
use Rattle.finding.specs.Reaching.{found_in}
use Rattle.finding.proofs.KnownSound.{enough, few}
use Rattle.finding.proofs.RowFound.{found_absent}
use Rattle.tree.proofs.Identifiers.{identifier_coded}
use Rattle.tree.proofs.Answered.{answered_key}
use Rattle.sheets.proofs.Carried.{looked_up}
use Rattle.sheets.proofs.find.Goals as goal

pub returns-then-not-is_identifier : goal.returns-then-not-is_identifier
unfolding answered_line key_allowed
returns-then-not-is_identifier c = answered_key _ _ true (find _) (was_no _ c.is_identifier.ensures c.if-not-is_identifier.true)

pub invariant_of-look_up : goal.invariant_of-look_up
invariant_of-look_up c = record { enough = enough _ _ c.requires; few = few _ _ c.requires }

pub returns : goal.returns
returns c =
    let identifier = was_yes _ c.is_identifier.ensures c.if-not-is_identifier.false in
    let row = c.look_up-looked.ensures.row_is (identifier_coded document01 _ identifier) in
    looked_up _ _ c.requires _ identifier (c.found_or_absent.ensures ∙ ap found_in row ∙ found_absent _)

-- `spell` adds the character of a label, and nothing for the end mark. Assumes nothing.
use Rattle.std.proofs.Common.{◌∙◌, ◌<◌, ◌≤◌, ap, length, arith}
use lib.Seq.{length-take-le, take-set-le}
use Rattle.finding.proofs.Options.{number_none, number_some}
use Rattle.listing.proofs.Beginnings.{spelt_none, spelt_some, take_one_more}
use Rattle.listing.proofs.Spelt.spell.Goals as goal

pub returns-in-Some : goal.returns-in-Some
returns-in-Some c =
    let s = c.self.inside in
    let long : s.count ≤ length s.characters = omega arith in
    let inside : s.count < length s.characters = omega (arith, ap length c.self.view_is, length-take-le s.count s.characters long) in
    let spelt = number_some c.in-Some.ensures in
    rw (← c.self.view_is) (take_one_more s.characters s.count _ inside (omega arith) (omega arith) ∙ spelt_some _ _ spelt.0 spelt.1)

pub returns-in_default : goal.returns-in_default
returns-in_default c = spelt_none _ _ (grind (arith, take-set-le)) c.requires.label (number_none c.in_default.ensures)

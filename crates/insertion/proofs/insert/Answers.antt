-- `insert` looks the identifier up; it answers PRESENT, or extends the table at the node where the walk stopped. Assumes nothing.
use Rattle.std.proofs.Common.{◌≡◌, Some, None, rules}
use Rattle.finding.proofs.KnownSound.{enough, few}
use Rattle.insertion.proofs.Beginning.{is_present, extends, is_carried_out}
use Rattle.insertion.proofs.insert.Goals as goal

pub invariant_of-look_up : goal.invariant_of-look_up
invariant_of-look_up c =
    let whole = c.requires.whole in
    record { enough = enough _ _ whole; few = few _ _ whole }

pub returns-in-Some : goal.returns-in-Some
returns-in-Some c =
    let is : c.look_up-looked.result.row ≡ Some c.in-Some.held = search rules in
    is_present c.requires c.look_up-looked.ensures is

pub extend-requires : goal.extend-requires
extend-requires c =
    let is : c.look_up-looked.result.row ≡ None = search rules in
    (_, extends c.requires c.look_up-looked.ensures is)

pub returns : goal.returns
returns c =
    let i = c.requires in
    let w = c.look_up-looked.ensures in
    let is : c.look_up-looked.result.row ≡ None = search rules in
    is_carried_out i w is c.extend.auto.base (c.extend.ensures _ (extends i w is))

-- `delete` looks the identifier up; it answers ABSENT, or removes it. Assumes nothing.
use Rattle.finding.proofs.KnownSound.{enough, few}
use Rattle.deletion.proofs.CarriedOut.{is_absent, removes, is_removed}
use Rattle.deletion.proofs.delete.Goals as goal

pub invariant_of-look_up : goal.invariant_of-look_up
invariant_of-look_up c =
    let whole = c.requires.whole in
    record { enough = enough _ _ whole; few = few _ _ whole }

pub returns-in_default : goal.returns-in_default
returns-in_default c = is_absent c.requires c.look_up-looked.ensures c.in_default.is

pub remove-requires : goal.remove-requires
remove-requires c = (_, removes c.requires c.look_up-looked.ensures c.in-Some.is)

pub returns : goal.returns
returns c =
    let w = c.look_up-looked.ensures in
    is_removed c.requires w c.in-Some.is c.remove.auto.base (c.remove.ensures _ (removes c.requires w c.in-Some.is))

-- `remove` releases the leaf, looks at its parents in turn, and takes a step. Assumes nothing.
use Rattle.deletion.proofs.Removal.{remove_releases, remove_prunes, remove_steps, remove_left}
use Rattle.deletion.proofs.remove.Goals as goal

pub release-requires : goal.release-requires
release-requires c = let (t, r) = c.requires in (t, remove_releases r c.at-leaf.ensures.is)

pub prune-requires : goal.prune-requires
prune-requires c =
    let (t, r) = c.requires in
    let is = c.at-leaf.ensures.is in
    (_, (_, remove_prunes r is (c.release.ensures t (remove_releases r is))))

pub step-requires : goal.step-requires
step-requires c =
    let (t, r) = c.requires in
    let is = c.at-leaf.ensures.is in
    (_, remove_steps r is (c.prune.ensures _ _ (remove_prunes r is (c.release.ensures t (remove_releases r is)))))

pub returns : goal.returns
returns c = λ t r.
    let is = c.at-leaf.ensures.is in
    let pruned = c.prune.ensures _ _ (remove_prunes r is (c.release.ensures t (remove_releases r is))) in
    remove_left r (c.step.ensures _ (remove_steps r is pruned))

-- `prune` leaves a cell that has a child; the root without one gets base 1; any other cell is released, and its parent is pruned.
-- Assumes nothing.
use native.Mathlib.Omega.{arith}
use Rattle.pruning.proofs.FreedCells.{prune_looked, prune_stayed, prune_relocates, prune_relocated, prune_releases, prune_parent, prune_left}
use Rattle.pruning.proofs.+prune.Goals as goal

-- ---- the cell has a child

pub returns-then-not-is_childless : goal.returns-then-not-is_childless
returns-then-not-is_childless n c = λ path t p.
    prune_stayed p (prune_looked p c.is_childless.ensures c.if-not-is_childless.true)

-- ---- it has none, and is the root

pub relocate-requires : goal.relocate-requires
relocate-requires n c =
    let (path, (t, p)) = c.requires in
    (t, prune_relocates p (prune_looked p c.is_childless.ensures c.if-not-is_childless.false) c.if-depth-eq0.true)

pub returns-then-depth-eq0 : goal.returns-then-depth-eq0
returns-then-depth-eq0 n c = λ path t p.
    let none = prune_looked p c.is_childless.ensures c.if-not-is_childless.false in
    prune_relocated p none c.if-depth-eq0.true c.relocate.ensures

-- ---- it becomes free, and its parent is looked at

pub release-requires : goal.release-requires
release-requires n c =
    let (path, (t, p)) = c.requires in
    (t, prune_releases c.if-depth-eq0.false path p)

pub prune-requires : goal.prune-requires
prune-requires n c =
    let (path, (t, p)) = c.requires in
    let none = prune_looked p c.is_childless.ensures c.if-not-is_childless.false in
    (omega (arith, c.decreases), (_, (_, prune_parent c.if-depth-eq0.false none c.at-s.ensures.is c.release.ensures path p)))

pub returns : goal.returns
returns n c = λ path t p.
    let none = prune_looked p c.is_childless.ensures c.if-not-is_childless.false in
    prune_left c.if-depth-eq0.false none path p (c.prune.ensures _ _ (prune_parent c.if-depth-eq0.false none c.at-s.ensures.is c.release.ensures path p))

-- `visit` and `try_label` call each other. The measure of a visit is 40 times its depth; that of a label tried is that of a visit below
-- it, with the labels left and one more. Assumes nothing.
use Prim.Native.Nat.{◌+◌, ◌*◌, ◌-◌}
use Rattle.listing.proofs.Visiting.{Trying}
use Rattle.listing.proofs.+try_label_visit.Given as goal

abbrev pub decreases-try_label : goal.decreases-try_label
decreases-try_label l = l.depth * 40 + l.left + 1

abbrev pub decreases-visit : goal.decreases-visit
decreases-visit l = l.depth * 40

abbrev pub invariant-visit-loop-left : goal.invariant-visit-loop-left
invariant-visit-loop-left l = Trying l.arrays.base.now l.arrays.check.now l.s.0 (l.depth - 1) l.initial.key l.initial.out l.key l.out l.written l.labels

abbrev pub decreases-visit-loop-left : goal.decreases-visit-loop-left
decreases-visit-loop-left l = l.labels

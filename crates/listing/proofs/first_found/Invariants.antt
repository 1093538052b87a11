-- `first_found` tries label after label. The loop's invariant: the labels left have the same first one that leads somewhere. Assumes
-- nothing.
use mathlib.Core.Path.{◌≡◌}
use Rattle.listing.specs.Visiting.{first_found}
use Rattle.listing.proofs.first_found.Given as goal

abbrev pub invariant-loop-behind : goal.invariant-loop-behind
invariant-loop-behind l = first_found l.arrays.base.now l.arrays.check.now l.s.0 l.behind ≡ first_found l.arrays.base.now l.arrays.check.now l.s.0 l.labels

-- The measure of `prune` is the depth that is left.
use Rattle.pruning.proofs.+prune.Given as goal

abbrev pub decreases-prune : goal.decreases-prune
decreases-prune l = l.depth

-- The measure of `grow` is the length of the rest.
use Rattle.std.proofs.Common.{length}
use Rattle.growing.proofs.+grow.Given as goal

abbrev pub decreases-grow : goal.decreases-grow
decreases-grow l = length l.rest.now

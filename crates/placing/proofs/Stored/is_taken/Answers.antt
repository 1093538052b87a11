-- `is_taken` looks at check up to the last cell. Assumes nothing.
use Rattle.std.proofs.Common.{rules}
use Rattle.placing.specs.Search.{taken_at}
use Rattle.placing.proofs.Stored.is_taken.Goals as goal

pub returns-then-u-self : goal.returns-then-u-self
unfolding taken_at
returns-then-u-self c = search rules

pub returns-else-u-self : goal.returns-else-u-self
unfolding taken_at
returns-else-u-self c = search rules

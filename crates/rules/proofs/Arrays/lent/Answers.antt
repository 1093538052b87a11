-- `Arrays::lent` hands on arrays of the right lengths. Assumes nothing.
use mathlib.Core.Path.{sym, ◌∙◌}
use Rattle.rules.proofs.Lengths.{lengths_same, lengths_within}
use Rattle.rules.proofs.Arrays.lent.Goals as goal

pub invariant_of-result : goal.invariant_of-result
invariant_of-result c =
    let w = lengths_within c.args.base.now c.args.check.now (sym c.right_lengths.ensures ∙ c.if-right_lengths.true) in
    record { enough = w.0; few = w.1 }

pub returns-then-right_lengths-clause-same_length :
    goal.returns-then-right_lengths-clause-same_length
returns-then-right_lengths-clause-same_length c = lengths_same _ _ (sym c.right_lengths.ensures ∙ c.if-right_lengths.true)

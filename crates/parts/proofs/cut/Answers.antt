-- `cut` looks for the last line feed. Assumes nothing.
use Rattle.std.proofs.Common.{◌≡◌, ◌+◌, MatchOption, rules}
use Rattle.parts.proofs.Places.{LastFeed, cut_there}
use Rattle.parts.proofs.cut.Goals as goal

pub returns : goal.returns
returns c =
    let last : LastFeed c.args.part.now c.rposition.result = search rules in
    let is : MatchOption c.rposition.result (c.map_or.result ≡ 0) (λ i. c.map_or.result ≡ i + 1) = search rules in
    cut_there _ c.rposition.result _ last is

-- `are_nought_in` tests two elements by one `|`. Assumes nothing.
use Rattle.std.proofs.Common.{get_or, pos}
use Rattle.numbers.proofs.Machine.{or_bits}
use Rattle.numbers.proofs.are_nought_in.Goals as goal

pub returns : goal.returns
returns c =
    let a = c.args in
    or_bits (get_or a.s.now a.i (pos 0)) (get_or a.t.now a.i (pos 0)) (record { sfits = c.result-1.given }) (record { sfits = c.result-2-1.given })

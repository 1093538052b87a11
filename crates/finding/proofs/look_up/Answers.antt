-- `look_up` walks along the text, and gives the row after the end mark too. Assumes nothing.
use Rattle.finding.proofs.RowFound.{row_reached}
use Rattle.finding.proofs.look_up.Goals as goal

pub returns : goal.returns
returns c =
    let w = c.walk-reached.ensures in
    record { walked = w; row_is = λ k. row_reached _ _ _ (w.reaches k) c.held-row.ensures }

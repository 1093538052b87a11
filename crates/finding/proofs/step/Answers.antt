-- `step` takes the code of the character to `next_within`. Assumes nothing.
use Rattle.std.proofs.Common.{◌≡◌, sym, ap, ◌∙◌, Some, None, rules}
use Rattle.rules.specs.Options.{some_cell}
use Rattle.finding.proofs.Options.{number_none, number_some, or_none, or_some}
use Rattle.finding.proofs.Stepping.{uncoded_step, coded_step}
use Rattle.finding.proofs.step.Goals as goal

pub returns-in_err-code : goal.returns-in_err-code
returns-in_err-code c =
    let none : c.code.result ≡ None = search (rules, or_none) in
    c.from_residual.ensures ∙ ap some_cell (uncoded_step _ _ _ _ (number_none (sym none ∙ c.code.ensures.is)))

pub returns : goal.returns
returns c =
    let some : c.code.result ≡ Some c.in_ok-code.code = search (rules, or_some) in
    let coded = number_some (sym some ∙ c.code.ensures.is) in
    c.next_within.ensures ∙ ap some_cell (coded_step _ _ _ _ coded.0 coded.1)

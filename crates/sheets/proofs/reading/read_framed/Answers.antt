-- `read_framed` reads field after field. Where one cannot be read, or the line does not end where its length says, the first line is no
-- command. Assumes nothing.
use mathlib.Core.Path.{sym, ◌∙◌}
use native.Mathlib.Omega.{arith}
use lib.ListN.{length-take}
use Rattle.rules.proofs.Choices.{was_no, was_yes}
use Rattle.sheets.proofs.Framed.{not_framed, too_short, no_operation, no_length, no_end, no_characters, no_last_number, fields_read}
use Rattle.sheets.proofs.reading.read_framed.Goals as goal

pub returns-then-rest-lt12 : goal.returns-then-rest-lt12
returns-then-rest-lt12 c = λ _ f. not_framed _ f (too_short _ c.if-rest-lt12.true)

pub returns-in_err-operation : goal.returns-in_err-operation
returns-in_err-operation c = rw c.from_residual.ensures (λ _ f. not_framed _ f (no_operation _ c.in_err-operation.ensures))

pub returns-in_err-length : goal.returns-in_err-length
returns-in_err-length c = rw c.from_residual-in_err-length.ensures (λ _ f. not_framed _ f (no_length _ c.in_err-length.ensures))

pub returns-then-not-is_end : goal.returns-then-not-is_end
returns-then-not-is_end c = λ _ f. not_framed _ f (no_end _ c.in_ok-length.ensures (was_no _ c.is_end.ensures c.if-not-is_end.true))

pub returns-in_err-characters : goal.returns-in_err-characters
returns-in_err-characters c =
    rw c.from_residual-in_err-characters.ensures (λ _ f. not_framed _ f (no_characters _ c.in_ok-length.ensures (omega arith) c.in_err-characters.ensures))

pub returns-in_err-number : goal.returns-in_err-number
returns-in_err-number c =
    rw c.from_residual-in_err-number.ensures (λ _ f. not_framed _ f (no_last_number _ c.in_ok-length.ensures (omega arith) (omega arith) c.in_err-number.ensures))

pub returns : goal.returns
returns c =
    let (first, is) = fields_read _ c.in_ok-length.ensures _ _ _ (omega arith) c.in_ok-operation.ensures (was_yes _ c.is_end.ensures c.if-not-is_end.false)
    c.in_ok-characters.ensures (omega arith) (omega (arith, length-take c.in_ok-length.length c.args.key.now)) c.in_ok-number.ensures (omega arith) (omega arith) in
    record { first = first; command = is ∙ sym c.command_of.ensures }

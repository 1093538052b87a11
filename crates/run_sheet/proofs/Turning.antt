-- That there is room for the answers at the sheet's end; and that turn after turn makes a sheet that comes in parts, of which
-- `stream_whole` says that it is answered as the whole would be. Assumes nothing.
use mathlib.Core.Path.{◌≡◌, ap, ◌∙◌}
use mathlib.Core.List.{List, [], ◌++◌}
use Prim.Native.Nat.{ℕ, ◌*◌, ◌≤◌}
use native.Mathlib.Omega.{arith}
use lib.ListN.{length, take, drop}
use lib.Seq.{length-take-le, length-sets, take-add}
use Rattle.std.specs.Prelude.{Result}
use Rattle.rules.specs.ARun.{sheet_lines}
use Rattle.tree.proofs.SheetLines.{lines_few}
use Rattle.parts.specs.Parts.{Streamed, ended, part}
use Rattle.parts.proofs.InParts.{all_counted, all_written}
use Rattle.run_sheet.specs.declared.Desk.{Desk}
use Rattle.run_sheet.specs.declared.Failure.{Failure}
use Rattle.run_sheet.specs.Turns.{Ready, PartTaken, LastTaken}

-- At the sheet's end there is room for the answers to what is carried over.
pub last_room : {d : Desk} → Ready d → 11 * length (sheet_lines (take d.held d.buffer)) ≤ length d.answers
last_room {d} ready =
    let short = length-take-le d.held d.buffer (omega (arith, ready.short, ready.buffered)) in
    omega (arith, lines_few (take d.held d.buffer), short, ready.short, ready.room)

-- ---- turn after turn

module _ {d : Desk} {got : Result ℕ Failure} {d' : Desk} {lines : ℕ} where
  -- A part that was answered is a link of a sheet that comes in parts, with what was read behind what is carried over.
  pub part_streams : (p : PartTaken d got d' lines) {sheet written : List ℕ} →
      Streamed d'.base d'.check (take d'.held d'.buffer) sheet written →
      Streamed d.base d.check (take d.held d.buffer) (take p.more (drop d.held d.buffer) ++ sheet) (take (11 * lines) d'.answers ++ written)
  part_streams p s = part (take d.held d.buffer) (take p.more (drop d.held d.buffer)) _ _ (take-add d.held p.more d.buffer) p.answered s

  -- What is answered at the sheet's end is the last link.
  pub last_streams : LastTaken d got d' lines → Streamed d.base d.check (take d.held d.buffer) [] (take (11 * lines) d'.answers)
  last_streams l =
      let long : length d'.answers ≡ length d.answers = ap length l.answered.out_is ∙ simp length-sets in
      let count = all_counted l.answered.answer in
      rw (all_written d.base d.check (take d.held d.buffer) d.answers l.answered (omega (arith, l.room))) ended

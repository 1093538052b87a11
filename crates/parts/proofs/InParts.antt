-- A sheet in parts: a part is cut and carried over so that nothing is lost, and however the sheet is cut, its answers are the same.
-- Assumes nothing.
use mathlib.Core.Path.{◌≡◌, sym, ap, ap₂, ◌∙◌}
use mathlib.Core.List.{List, [], ◌++◌, append_assoc, append-nil}
use Prim.Native.Nat.{ℕ, ◌*◌, ◌≤◌}
use native.Mathlib.Nat.{zero-add}
use native.Mathlib.Omega.{arith}
use lib.ListN.{length, take, drop, take-append-drop}
use lib.Seq.{sets-eq, length-take-le, take-take, take_at}
use lib.IntN.{ℤ}
use Rattle.rules.specs.Answers.{counted}
use Rattle.rules.specs.WhatTheIndexDoes.{document01, last_cell}
use Rattle.rules.specs.Rendering.{chained, read_table}
use Rattle.rules.specs.ARun.{sheet_lines, Answered, answered_lines}
use Rattle.rules.proofs.Codes.{document01_round_trip}
use Rattle.rules.proofs.Texts.{drop_take}
use Rattle.tree.specs.Renders.{Renders}
use Rattle.tree.specs.Sheets.{TOO_LONG}
use Rattle.tree.proofs.Elements.{base_length}
use Rattle.tree.proofs.SevenRules.{rules_render, render_rules, one_table}
use Rattle.tree.proofs.SheetLines.{unbroken_take, lines_few, lines_cut}
use Rattle.tree.proofs.LongLines.{shortened}
use Rattle.tree.proofs.Runs.{answered_append, length_answers}
use Rattle.tree.proofs.EndedRuns.{ended_renders}
use Rattle.sheets.specs.Answering.{lines_answered, AllAnswered}
use Rattle.parts.specs.Parts.{Cut, Carried, AnswersPart, behind, PartAnswered, Streamed, ended, part}

-- ---- what is written

-- The count of an answer that is done.
pub all_counted : {r n : ℕ} → counted r ≡ counted n → r ≡ n
all_counted e = cc

-- The answers to all lines stand at the front of the buffer.
pub all_written : (base check : List ℤ) (sheet out : List ℕ) {lines : ℕ} {base' check' : List ℤ} {out' : List ℕ} →
    AllAnswered base check sheet out lines base' check' out' → 11 * length (sheet_lines sheet) ≤ length out →
    take (11 * lines) out' ≡ (lines_answered base check sheet).bytes
all_written base check sheet out {lines} a room =
    let bytes = (lines_answered base check sheet).bytes in
    let count = all_counted a.answer in
    let many : length bytes ≡ 11 * lines = length_answers document01 (last_cell base) (read_table base check) (sheet_lines sheet) ∙ ap (λ (k : ℕ). 11 * k) (sym count) in
    rw (a.out_is, sets-eq bytes out 0 (omega arith), zero-add) (take_at bytes _ (11 * lines) many)

-- ---- a part

module _ {base check : List ℤ} {buffer : List ℕ} {n : ℕ} {out : List ℕ} (asked : AnswersPart base check buffer n out) {end : ℕ} (c : Cut (take n buffer) end) where
  pub inside : end ≤ n
  inside = omega (arith, c.within, length-take-le n buffer asked.within)

  -- The lines in front of the cut.
  front : take end (take n buffer) ≡ take end buffer
  front = take-take end n buffer inside

  pub lines_within : length (sheet_lines (take end buffer)) ≤ n
  lines_within = omega (arith, lines_few (take end buffer), length-take-le end buffer (omega (arith, inside, asked.within)), inside)

  pub answers_room : 11 * length (sheet_lines (take end buffer)) ≤ length out
  answers_room = omega (arith, lines_within, asked.room)

  module _ {lines : ℕ} {base' check' : List ℤ} {out' : List ℕ} (a : AllAnswered base check (take end buffer) out lines base' check' out') where
    abbrev one : Answered
    one = lines_answered base check (take end buffer)

    count_is : lines ≡ length (sheet_lines (take end buffer))
    count_is = all_counted a.answer

    renders : Renders chained document01 base' check' one.table
    renders = rw (a.base_is, a.check_is) (ended_renders (rules_render document01 base check asked.whole) document01_round_trip (take end buffer) out)

    written : take (11 * lines) out' ≡ one.bytes
    written = all_written base check (take end buffer) out a answers_room

    module _ {held : ℕ} {buffer' : List ℕ} (k : Carried buffer end n held buffer') (rest : List ℕ) where
      abbrev unfinished : List ℕ
      unfinished = drop end (take n buffer)

      split : take n buffer ++ rest ≡ take end buffer ++ (unfinished ++ rest)
      split = ap (λ (b : List ℕ). b ++ rest) (sym (take-append-drop end (take n buffer)) ∙ ap (λ (b : List ℕ). b ++ unfinished) front) ∙ append_assoc (take end buffer) unfinished rest

      -- The lines in front of the cut, and behind them those of the unfinished line and what follows.
      cut_answered : lines_answered base check (take n buffer ++ rest) ≡
          behind one.bytes (answered_lines document01 (last_cell base) one.table (sheet_lines (unfinished ++ rest)))
      cut_answered = rw (split, lines_cut (take end buffer) (unfinished ++ rest) (rw front at c.finished))
          (answered_append document01 (last_cell base) (read_table base check) (sheet_lines (take end buffer)) (sheet_lines (unfinished ++ rest)))

      carried_is : take held buffer' ≡ take TOO_LONG unfinished
      carried_is = k.front ∙ ap (take TOO_LONG) (sym (drop_take end n buffer))

      -- These are the lines of what is carried over and what follows.
      carried_answered : answered_lines document01 (last_cell base) one.table (sheet_lines (unfinished ++ rest)) ≡ lines_answered base' check' (take held buffer' ++ rest)
      carried_answered =
          let long : length base' ≡ length base = ap length a.base_is ∙ base_length one.table (length base) in
          shortened document01 (last_cell base) one.table unfinished rest c.unfinished ∙ rw (carried_is, long, ← one_table one.table renders)

    pub part_answered : {from held : ℕ} {buffer' : List ℕ} → Carried buffer from n held buffer' → from ≡ end → PartAnswered base check buffer n lines held base' check' buffer' out'
    part_answered {held = held} {buffer' = buffer'} k' is = let k : Carried buffer end n held buffer' = rw is at k' in record {
      later = λ rest. cut_answered k rest ∙ ap₂ (λ (b : List ℕ) (x : Answered). behind b x) (sym written) (carried_answered k rest);
      unfinished = rw (carried_is k []) (unbroken_take TOO_LONG (drop end (take n buffer)) c.unfinished);
      whole = render_rules document01 base' check' one.table renders;
      few = omega (arith, lines_within, count_is);
      short = omega (arith, k.count_is);
    }

-- ---- the whole sheet

-- However a sheet is cut into parts, what is written are the answers to the whole.
pub stream_whole : {base check : List ℤ} {carried sheet out : List ℕ} → Streamed base check carried sheet out → out ≡ (lines_answered base check (carried ++ sheet)).bytes
stream_whole {base} {check} (ended {held = held}) = ap (λ (s : List ℕ). (lines_answered base check s).bytes) (sym (append-nil held))
stream_whole {base} {check} (part {buffer = buffer} {out' = out'} {n = n} {lines = lines} carried more sheet out is p s) =
    ap (λ (b : List ℕ). take (11 * lines) out' ++ b) (stream_whole s)
    ∙ ap (λ (x : Answered). x.bytes) (sym (p.later sheet))
    ∙ ap (λ (b : List ℕ). (lines_answered base check b).bytes) (ap (λ (b : List ℕ). b ++ sheet) is ∙ append_assoc carried more sheet)

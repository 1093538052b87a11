-- Lines answered in turn: what a line leaves, that what is still to be answered comes to the whole, and that the whole is a run. Assumes
-- nothing.
use mathlib.Core.Path.{◌≡◌, refl, sym, ap, ◌∙◌}
use mathlib.Core.Bool.{true}
use mathlib.Core.List.{List, [], ◌∷◌, ◌++◌}
use mathlib.Core.Option as maybe
use Rattle.std.specs.Prelude.{Option, Err}
use Prim.Native.Nat.{ℕ, suc, ◌+◌, ◌*◌, ◌-◌, ◌/◌, ◌≤◌, ◌<◌, min}
use native.Mathlib.Omega.{arith}
use lib.ListN.{length, take, drop, length-drop}
use lib.Seq.{sets, length-sets, take_all}
use lib.IntN.{ℤ}
use borrow.Rule.Slice.PartMut.{put_mid, mid_of}
use borrow.Author.Tests.{le-leb, lt-leb}
use Rattle.rules.specs.declared.Refusal.TheVariants.{NoSpace}
use Rattle.rules.specs.Answers.{Answer, counted}
use Rattle.rules.specs.WhatTheIndexDoes.{document01, last_cell}
use Rattle.rules.specs.ASoundTable.{sound}
use Rattle.rules.specs.Rendering.{chained, read_table}
use Rattle.rules.specs.Commands.{Outcome}
use Rattle.rules.specs.Commands as commands
use Rattle.rules.specs.ARun.{sheet_lines, parsed, answer_bytes, Answered, answered_line, answered_lines}
use Rattle.rules.specs.Calls.{sound_run}
use Rattle.rules.specs.Promised.{Edits, Runs}
use Rattle.rules.proofs.Codes.{document01_round_trip}
use Rattle.rules.proofs.Digits.{length_answer}
use Rattle.rules.proofs.Texts.{none_left}
use Rattle.tree.specs.Renders.{Renders}
use Rattle.tree.proofs.Elements.{base_length}
use Rattle.tree.proofs.SevenRules.{rules_render, render_rules, one_table}
use Rattle.tree.proofs.SheetLines.{first_line}
use Rattle.tree.proofs.Runs.{line_kept}
use Rattle.tree.proofs.SingleCalls.{chained_audited, line_rendered}
use Rattle.tree.proofs.EndedRuns.{again_renders}
use Rattle.text.proofs.Sets.{sets_then, sets_part}
use Rattle.sheets.specs.declared.reading.Command.{Command}
use Rattle.sheets.specs.Reading.{asked_or_none, LineRead}
use Rattle.sheets.proofs.Counted.{next_line}
use Rattle.sheets.specs.Answering.{line_edit, AnswersLines, lines_answered, AllAnswered}

-- ---- a line

module _ (base check : List ℤ) (whole : sound document01 base check ≡ true) (c : maybe.Option commands.Command) where
  -- What the line comes to on the table that the arrays hold.
  abbrev one : Outcome
  one = answered_line document01 (last_cell base) (read_table base check) c

  module _ {r : Answer} {base' check' : List ℤ} (e : Edits (line_edit base check c) r base' check') where
    pub line_answer : r ≡ one.answer
    line_answer = e.answer ∙ ap (λ x. x.answer) (line_rendered (chained_audited document01) base check whole c)

    pub line_renders : Renders chained document01 base' check' one.table
    line_renders =
        let d = rules_render document01 base check whole in
        let (w, fits) = line_kept document01_round_trip (last_cell base) d.table d.fits c in
        let is = line_rendered (chained_audited document01) base check whole c in
        rw (e.base_is ∙ ap (λ x. x.base) is, e.check_is ∙ ap (λ x. x.check) is) (again_renders d w fits)

    pub line_long : length base' ≡ length base
    line_long = ap length (e.base_is ∙ ap (λ x. x.base) (line_rendered (chained_audited document01) base check whole c)) ∙ base_length one.table (length base)

    pub line_sound : sound document01 base' check' ≡ true
    line_sound = render_rules document01 base' check' one.table line_renders

    -- The line's answer, and those to the lines behind it.
    pub lines_on : (rest line more : List ℕ) → sheet_lines rest ≡ line ∷ sheet_lines more → parsed line ≡ c →
        lines_answered base check rest ≡
        record { bytes = answer_bytes r ++ (lines_answered base' check' more).bytes; table = (lines_answered base' check' more).table }
    unfolding answered_lines
    lines_on rest line more split is = rw (split, is, line_answer, line_long, ← one_table one.table line_renders)

-- ---- all of them

module _ (base₀ check₀ : List ℤ) (sheet out₀ : List ℕ) where
  -- What is still to be answered, answered now, comes to the whole.
  pub record Still (base check : List ℤ) (out rest : List ℕ) (count : ℕ) : Type 0 where
    pub whole : sound document01 base check ≡ true
    pub long : length base ≡ length base₀
    pub lines_left : count + length (sheet_lines rest) ≡ length (sheet_lines sheet)
    pub table_left : (lines_answered base check rest).table ≡ (lines_answered base₀ check₀ sheet).table
    pub bytes_left : sets out (11 * count) (lines_answered base check rest).bytes ≡ sets out₀ 0 (lines_answered base₀ check₀ sheet).bytes
    pub out_long : length out ≡ length out₀

  module _ (asked : AnswersLines base₀ check₀ sheet out₀) where
    module _ {base check : List ℤ} {out rest : List ℕ} {count : ℕ} (s : Still base check out rest count) where
      pub still_last : length rest ≤ 0 → AllAnswered base₀ check₀ sheet out₀ count base check out
      unfolding sheet_lines answered_lines
      still_last h =
          let none : rest ≡ [] = none_left rest h in
          let t : read_table base check ≡ (lines_answered base₀ check₀ sheet).table = rw none at s.table_left in
          let d = rules_render document01 base check s.whole in
          record {
            answer = ap counted (omega (arith, rw none at s.lines_left));
            base_is = d.base_is ∙ rw (s.long, t);
            check_is = d.check_is ∙ rw (s.long, t);
            out_is = rw none at s.bytes_left;
          }

      module _ (some : 1 ≤ length rest) {c : Option Command} {end : ℕ} (f : LineRead rest c end) where
        split : sheet_lines rest ≡ take end rest ∷ sheet_lines (drop (suc end) rest)
        split = first_line some f.first

        pub room_left : 11 * count + 11 ≤ length out
        room_left = omega (arith, s.lines_left, s.out_long, asked.room, ap length split)

        module _ {r : Answer} {base' check' : List ℤ} (e : Edits (line_edit base check (asked_or_none c)) r base' check') where
          on : lines_answered base check rest ≡ record { bytes = answer_bytes r ++ (lines_answered base' check' (drop (suc end) rest)).bytes; table = (lines_answered base' check' (drop (suc end) rest)).table }
          on = lines_on base check s.whole _ e rest (take end rest) (drop (suc end) rest) split f.command

          pub still_more : {part : List ℕ} {next : ℕ} → next ≡ min (length rest) (end + 1) → part ≡ sets (mid_of (11 * count) (length out - 11 * count) out) 0 (answer_bytes r) →
              Still base' check' (put_mid (11 * count) (length out - 11 * count) out part) (take (length rest - next) (drop next rest)) (count + 1)
          still_more {part} {next} n is =
              let more : take (length rest - next) (drop next rest) ≡ drop (suc end) rest = take_all (length rest - next) (drop next rest) (rw length-drop (omega arith)) ∙ rw n (next_line rest end) in
              let bytes : length (answer_bytes r) ≡ 11 = length_answer r in
              let out_is : put_mid (11 * count) (length out - 11 * count) out part ≡ sets out (11 * count) (answer_bytes r) = rw is (sets_part out (11 * count) (answer_bytes r) (omega (arith, room_left))) in
              rw (more, out_is) (record {
                whole = line_sound base check s.whole _ e;
                long = line_long base check s.whole _ e ∙ s.long;
                lines_left = omega (arith, s.lines_left, ap length split);
                table_left = sym (ap (λ (x : Answered). x.table) on) ∙ s.table_left;
                bytes_left = sets_then out (11 * count) (11 * (count + 1)) (answer_bytes r) _ (omega arith) ∙ sym (ap (λ (x : Answered). sets out (11 * count) x.bytes) on) ∙ s.bytes_left;
                out_long = length-sets out (11 * count) (answer_bytes r) ∙ s.out_long;
              })

-- ---- a run

module _ (base check : List ℤ) (sheet out : List ℕ) where
  abbrev ran : Answer → List ℤ → List ℤ → List ℕ → Type 0
  ran = Runs (sound_run chained document01 base check sheet out)

  pub no_space : length out / 11 < length (sheet_lines sheet) → ran (Err NoSpace) base check out
  unfolding sound_run
  no_space h = rw (lt-leb (11 * length (sheet_lines sheet)) (length out) (omega arith))
      (record { answer = refl; base_is = refl; check_is = refl; out_is = refl })

  pub all_answered : length (sheet_lines sheet) ≤ length out / 11 → {r : ℕ} {base' check' : List ℤ} {out' : List ℕ} →
      AllAnswered base check sheet out r base' check' out' → ran (counted r) base' check' out'
  unfolding sound_run
  all_answered h a = rw (le-leb (11 * length (sheet_lines sheet)) (length out) (omega arith))
      a

-- A run on two arrays: it leaves arrays that pass the audit; each line is answered, and leaves the arrays, as the single call
-- would; and a sheet may be cut after any of its line feeds and run in two parts. Assumes nothing.
use mathlib.Core.Path.{◌≡◌, sym, ap, ◌∙◌}
use mathlib.Core.Logic.{inr}
use mathlib.Core.Bool.{true}
use mathlib.Core.List.{List, [], ◌∷◌, ◌++◌, append_assoc, append-nil}
use mathlib.Core.Option.{none, some}
use Prim.Native.Nat.{ℕ, ◌+◌, ◌*◌, ◌-◌, ◌≤◌}
use native.Mathlib.Omega.{arith}
use lib.ListN.{length, drop, length-append, length-drop}
use lib.Seq.{sets, length-sets, get_or-append_seam}
use lib.IntN.{ℤ}
use lib.Dec.{leb}
use Rattle.rules.specs.Answers.{counted, is_done}
use Rattle.rules.specs.Listing.{LF}
use Rattle.rules.specs.WhatTheIndexDoes.{Profile, RoundTrip, last_cell}
use Rattle.rules.specs.Table.{Table}
use Rattle.rules.specs.Commands.{Command}
use Rattle.rules.specs.Rendering.{Kind, read_table}
use Rattle.rules.specs.ARun.{sheet_lines, digits, parsed, answer_bytes, answered_line, answered_lines}
use Rattle.rules.specs.Calls.{Ran, command_call, sound_run, run_call}
use Rattle.rules.proofs.Choices.{branch, passes}
use Rattle.tree.specs.Renders.{Renders}
use Rattle.tree.specs.Sheets.{WholeLines, InTwoParts}
use Rattle.tree.proofs.Elements.{base_length}
use Rattle.tree.proofs.SheetLines.{lines_cut, lines_feed, digits_unbroken}
use Rattle.tree.proofs.SingleCalls.{Audited, single_rendered}
use Rattle.tree.proofs.EndedRuns.{ended_renders, run_done, run_needs, ended_parts}
use Rattle.rules.specs.declared.Refusal.TheVariants.{Line}
use Rattle.std.specs.Prelude.{Err}

-- A command's bytes are digits.
command_digits : (line : List ℕ) (c : Command) → parsed line ≡ some c → digits line ≡ true
unfolding parsed
command_digits line c is = passes (digits line) (λ f. let n : parsed line ≡ none = rw f in let z : ◌≡◌ {A = ℕ} 0 1 = cc in omega arith)

module _ {K : Kind} {P : Profile} (audited : Audited K P) (trip : RoundTrip P) (base check : List ℤ) where
  abbrev t : Table
  t = read_table base check

  module _ (e : K.audit P base check ≡ true) where
    r : Renders K P base check t
    r = audited.renders base check e

    -- What a run leaves passes the audit, refused runs included.
    pub run_sound : (sheet out : List ℕ) → let x = run_call K P base check sheet out in K.audit P x.base x.check ≡ true
    unfolding run_call sound_run
    run_sound sheet out =
        rw (r.lengths, e) (branch (λ (x : Ran). K.audit P x.base x.check ≡ true) (leb (11 * length (sheet_lines sheet)) (length out))
        (λ _. audited.passes _ _ _ (ended_renders r trip sheet out)) (λ _. e))

    -- ---- one line

    -- It is answered, and leaves the arrays, as the single call would, refusals included.
    pub run_line : (sheet out line : List ℕ) (c : Command) → sheet_lines sheet ≡ line ∷ [] → parsed line ≡ some c → 11 ≤ length out →
        let single = command_call K P base check c in
        run_call K P base check sheet out ≡
        record { answer = counted 1; base = single.base; check = single.check; out = sets out 0 (answer_bytes single.answer) }
    unfolding answered_lines answered_line
    run_line sheet out line c one is room =
        run_done r audited sheet out (rw one room) ∙ rw (one, is, single_rendered audited base check e c, append-nil)

    -- One that is no command is answered LINE, and leaves the arrays as they are.
    pub run_no_line : (sheet out line : List ℕ) → sheet_lines sheet ≡ line ∷ [] → parsed line ≡ none → 11 ≤ length out →
        run_call K P base check sheet out ≡ record { answer = counted 1; base = base; check = check; out = sets out 0 (answer_bytes (Err Line)) }
    unfolding answered_lines answered_line
    run_no_line sheet out line one is room =
        run_done r audited sheet out (rw one room) ∙ rw (one, is, append-nil, ← r.base_is, ← r.check_is)

  -- ---- two parts

  -- A sheet cut after any of its line feeds and run in two parts gives the same arrays, and the same bytes one after the other.
  pub run_cut : (s r out : List ℕ) → WholeLines s → is_done (run_call K P base check (s ++ r) out).answer ≡ true →
      let n = length (sheet_lines s) in
      let one = run_call K P base check s out in
      let two = run_call K P one.base one.check r (drop (11 * n) one.out) in
      InTwoParts (run_call K P base check (s ++ r) out) one two n (length (sheet_lines r))
  run_cut s r out w done =
      let (e, room) = run_needs K P base check (s ++ r) out done in
      let h = audited.renders base check e in
      let n = length (sheet_lines s) in
      let many : length (sheet_lines (s ++ r)) ≡ n + length (sheet_lines r) = rw (lines_cut s r w, length-append) in
      let end = answered_lines P (last_cell base) t (sheet_lines s) in
      let out' = drop (11 * n) (sets out 0 end.bytes) in
      let left : length out' ≡ length out - 11 * n = simp (length-drop, length-sets) in
      let second = run_done (ended_renders h trip s out) audited r out' (omega arith) in
      rw (run_done h audited (s ++ r) out room, run_done h audited s out (omega arith), second, base_length)
      (ended_parts K P (length base) t s r out w (omega arith))

  -- So a sheet is answered line by line: what its first line and the rest give is what the single call gives, and a run of the rest on
  -- the arrays that the call leaves.
  pub run_on : K.audit P base check ≡ true → (line rest out : List ℕ) (c : Command) → parsed line ≡ some c →
      is_done (run_call K P base check (line ++ (LF ∷ rest)) out).answer ≡ true →
      let single = command_call K P base check c in
      let one : Ran = record { answer = counted 1; base = single.base; check = single.check; out = sets out 0 (answer_bytes single.answer) } in
      let two = run_call K P one.base one.check rest (drop 11 one.out) in
      InTwoParts (run_call K P base check (line ++ (LF ∷ rest)) out) one two 1 (length (sheet_lines rest))
  unfolding sheet_lines
  run_on e line rest out c is done =
      let fed = line ++ (LF ∷ []) in
      let whole : line ++ (LF ∷ rest) ≡ fed ++ rest = sym (append_assoc line (LF ∷ []) rest) in
      let one : sheet_lines fed ≡ line ∷ [] = lines_feed line [] (digits_unbroken line (command_digits line c is)) in
      let ends : WholeLines fed = inr (let n : length fed - 1 ≡ length line = rw length-append (omega arith) in rw n (get_or-append_seam line LF [] 0)) in
      let room : 11 ≤ length out = omega (arith, (run_needs K P base check (line ++ (LF ∷ rest)) out done).1, ap (λ (x : List ℕ). length (sheet_lines x)) whole, ap length (lines_cut fed rest ends), ap length one, length-append (sheet_lines fed) (sheet_lines rest)) in
      rw whole (rw (run_line e fed out line c one is room, one) at (run_cut fed rest out ends (rw whole at done)))

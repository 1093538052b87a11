-- The eight calls: for each, one total function from what is lent and given at entry to the answer and every element and byte
-- at exit, refusals included. The public contracts cite these, at document 01's kind of table and profile.
use Rattle.std.specs.Prelude.{ℕ, ◌*◌, ◌-◌, cond, List, length, ℤ, leb, Err}
use Rattle.std.proofs.lemmas.List.Edits.{sets}
use Rattle.rules.specs.Answers.{Answer, counted, is_done, found_or_absent}
use Rattle.rules.specs.WhatTheIndexDoes.{Profile, is_identifier, right_lengths, last_cell}
use Rattle.rules.specs.ASoundTable.{fresh_base, fresh_check}
use Rattle.rules.specs.Finding.{row_found}
use Rattle.rules.specs.Listing.{listing}
use Rattle.rules.specs.Table.{Table}
use Rattle.rules.specs.Commands.{Command, insert, delete, find, compact, Outcome, carried_out, answered}
use Rattle.rules.specs.Rendering.{Kind, render_base, render_check, read_cells, read_table}
use Rattle.rules.specs.ARun.{sheet_lines, answered_lines}
use Rattle.rules.specs.declared.Refusal.TheVariants.{Size, Key, Damaged, NoSpace}

-- The answer, and the two arrays at exit.
pub record Edited : Type 0 where
  pub answer : Answer
  pub base : List ℤ
  pub check : List ℤ

-- The answer, and the buffer at exit.
pub record Written : Type 0 where
  pub answer : Answer
  pub out : List ℕ

-- The answer, the two arrays and the buffer at exit.
pub record Ran : Type 0 where
  pub answer : Answer
  pub base : List ℤ
  pub check : List ℤ
  pub out : List ℕ

-- A refused call changes no byte of the buffer.
abbrev pub unwritten : List ℕ → Answer → Written
unwritten out a = record { answer = a; out = out }

-- A refused call changes no element.
abbrev pub unchanged : List ℤ → List ℤ → Answer → Edited
unchanged base check a = record { answer = a; base = base; check = check }

-- What a run leaves where it is done, of arrays of k elements that hold the table t: the lines are answered in turn.
abbrev pub ended : Kind → Profile → ℕ → Table → List ℕ → List ℕ → Ran
ended K P k t sheet out =
    let end = answered_lines P (k - 1) t (sheet_lines sheet) in
    record {
      answer = counted (length (sheet_lines sheet));
      base = render_base k end.table;
      check = render_check K P k end.table;
      out = sets out 0 end.bytes;
    }

-- A refused run changes no element and no byte.
abbrev pub untouched : List ℤ → List ℤ → List ℕ → Answer → Ran
untouched base check out a = record { answer = a; base = base; check = check; out = out }

module _ (P : Profile) (base check : List ℤ) where
  -- fresh: SIZE, or done.
  unfoldable pub fresh_call : Edited
  fresh_call =
      let done : Edited = record { answer = counted 0; base = fresh_base (length base); check = fresh_check P (length base) } in
      cond (right_lengths base check) done (unchanged base check (Err Size))

  -- find: SIZE, KEY, then the walk; no audit.
  unfoldable pub find_call : List ℕ → Answer
  find_call key =
      let keyed = cond (is_identifier P key) (found_or_absent (row_found base check P key)) (Err Key) in
      cond (right_lengths base check) keyed (Err Size)

  -- On a table known to be sound, the listing: NO SPACE, or done with the bytes written; the bytes past them stay.
  unfoldable pub sound_list : List ℕ → Written
  sound_list out =
      let bytes = listing P (read_cells base check) in
      let done : Written = record { answer = counted (length bytes); out = sets out 0 bytes } in
      cond (leb (length bytes) (length out)) done (unwritten out (Err NoSpace))

module _ (K : Kind) (P : Profile) (base check : List ℤ) where
  -- What an outcome leaves in the arrays: where it is done, its table's rendering.
  unfoldable pub stored : Outcome → Edited
  stored o =
      let n = length base in
      let done : Edited = record { answer = o.answer; base = render_base n o.table; check = render_check K P n o.table } in
      cond (is_done o.answer) done (unchanged base check o.answer)

  -- On a table known to be sound, for an identifier and a number that are allowed: what the command itself meets.
  unfoldable pub sound_edit : Command → Edited
  sound_edit command = stored (carried_out P (last_cell base) (read_table base check) command)

  -- SIZE, then KEY, NUMBER, DAMAGED and what the command itself meets.
  unfoldable pub edit_call : Command → Edited
  edit_call command =
      let audited = stored (answered P (last_cell base) (read_table base check) (K.audit P base check) command) in
      cond (right_lengths base check) audited (unchanged base check (Err Size))

  -- insert is given an identifier and a row.
  abbrev pub insert_call : List ℕ → ℕ → Edited
  insert_call key row = edit_call (insert key row)

  -- delete is given an identifier.
  abbrev pub delete_call : List ℕ → Edited
  delete_call key = edit_call (delete key)

  -- compact is given the number n.
  abbrev pub compact_call : ℕ → Edited
  compact_call n = edit_call (compact n)

  -- The call that a command of demands 2 and 3 is; find changes no element.
  unfoldable pub command_call : Command → Edited
  command_call (insert key row) = insert_call key row
  command_call (delete key) = delete_call key
  command_call (find key) = unchanged base check (find_call P base check key)
  command_call (compact n) = compact_call n

  -- audit: SIZE, DAMAGED, or done.
  unfoldable pub audit_call : Answer
  audit_call =
      let audited = cond (K.audit P base check) (counted 0) (Err Damaged) in
      cond (right_lengths base check) audited (Err Size)

  -- list: SIZE, DAMAGED, then NO SPACE or done.
  unfoldable pub list_call : List ℕ → Written
  list_call out =
      let audited = cond (K.audit P base check) (sound_list P base check out) (unwritten out (Err Damaged)) in
      cond (right_lengths base check) audited (unwritten out (Err Size))

  -- On a table known to be sound, a run: NO SPACE for the whole; or the lines in turn, done with the number of them.
  unfoldable pub sound_run : List ℕ → List ℕ → Ran
  sound_run sheet out =
      let done = ended K P (length base) (read_table base check) sheet out in
      cond (leb (11 * length (sheet_lines sheet)) (length out)) done (untouched base check out (Err NoSpace))

  -- run: SIZE, DAMAGED, then NO SPACE or done.
  unfoldable pub run_call : List ℕ → List ℕ → Ran
  run_call sheet out =
      let audited = cond (K.audit P base check) (sound_run sheet out) (untouched base check out (Err Damaged)) in
      cond (right_lengths base check) audited (untouched base check out (Err Size))

-- The four commands of demands 2 and 3 on a table, with the refusals in document 01's order. The single calls and a run's lines
-- both go by this.
use Rattle.std.specs.Prelude.{ℕ, Bool, true, cond, List, leb, ltb, Err}
use Rattle.rules.specs.Answers.{Answer, counted, found, found_or_absent, present}
use Rattle.rules.specs.WhatTheIndexDoes.{Profile, is_identifier, is_row}
use Rattle.rules.specs.Table.{Table, lookup}
use Rattle.rules.specs.Insertion.{inserted}
use Rattle.rules.specs.DeletionAndCompaction.{deleted, compacted}
use Rattle.rules.specs.declared.Refusal.TheVariants.{Key, Number, Damaged, Absent, NoRoom}

-- One insert, delete, find or compact, with what the caller gives.
pub data Command : Type 0 where
  insert : List ℕ → ℕ → Command
  delete : List ℕ → Command
  find : List ℕ → Command
  compact : ℕ → Command

-- The answer, and the table after it.
pub record Outcome : Type 0 where
  pub answer : Answer
  pub table : Table

-- KEY is given unless this holds of the command's identifier.
unfoldable pub key_allowed : Profile → Command → Bool
key_allowed P (insert key n) = is_identifier P key
key_allowed P (delete key) = is_identifier P key
key_allowed P (find key) = is_identifier P key
key_allowed P (compact n) = true

-- NUMBER is given unless this holds of the command's row or n.
unfoldable pub number_allowed : Command → Bool
number_allowed (insert key n) = is_row n
number_allowed (delete key) = true
number_allowed (find key) = true
number_allowed (compact n) = leb n 65535

module _ (P : Profile) (last : ℕ) (t : Table) where
  -- A refusal, and an answer to find, leave the table as it is.
  abbrev pub kept : Answer → Outcome
  kept a = record { answer = a; table = t }

  -- PRESENT, ABSENT, NO ROOM or done, at the row that is held for the identifier (0 where it is not live).
  unfoldable pub carried_out : Command → Outcome
  carried_out (insert key n) =
      let held = lookup P t.cells key in
      let course = inserted P last t key n in
      let done : Outcome = record { answer = counted course.count; table = course.table } in
      let new = cond course.fitted done (kept (Err NoRoom)) in
      cond (ltb 0 held) (kept (present held)) new
  carried_out (delete key) =
      let held = lookup P t.cells key in
      let done : Outcome = record { answer = found held; table = deleted P t key } in
      cond (ltb 0 held) done (kept (Err Absent))
  carried_out (find key) = kept (found_or_absent (lookup P t.cells key))
  carried_out (compact n) =
      let moves = compacted P n t in
      record { answer = counted moves.count; table = moves.table }

  -- KEY, NUMBER, DAMAGED (the audit says no), then PRESENT or ABSENT, then NO ROOM.
  unfoldable pub answered : Bool → Command → Outcome
  answered whole command =
      let done = carried_out command in
      let audited = cond whole done (kept (Err Damaged)) in
      let numbered = cond (number_allowed command) audited (kept (Err Number)) in
      cond (key_allowed P command) numbered (kept (Err Key))

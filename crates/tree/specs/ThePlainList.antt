-- Demand 2: a plain list of identifiers and rows beside the table. Both take the same commands; the list decides and answers by
-- what it holds, and is told of the table's placement only what a list cannot know.
use Rattle.std.specs.Prelude.{◌≡◌, ℕ, ◌≤◌, Bool, true, false, cond, ◌&&◌, List, [], ◌∷◌, ltb, eqb, Err}
use Rattle.rules.specs.Answers.{Answer, counted, found, found_or_absent, present}
use Rattle.rules.specs.WhatTheIndexDoes.{Profile}
use Rattle.rules.specs.Table.{Table, lookup}
use Rattle.rules.specs.Insertion.{inserted}
use Rattle.rules.specs.DeletionAndCompaction.{compacted}
use Rattle.rules.specs.Listing.{Entry}
use Rattle.rules.specs.Commands.{Command, insert, delete, find, compact, Outcome, key_allowed, number_allowed, answered}
use Rattle.tree.specs.Soundness.{Sound}
use Rattle.rules.specs.declared.Refusal.TheVariants.{Key, Number, Absent, NoRoom}

-- ---- the list

-- Whether two identifiers are the same.
unfoldable pub same_key : List ℕ → List ℕ → Bool
same_key [] [] = true
same_key [] (d ∷ ds) = false
same_key (c ∷ cs) [] = false
same_key (c ∷ cs) (d ∷ ds) = eqb c d && same_key cs ds

-- The row that the list holds for an identifier, or 0.
unfoldable pub row_in : List Entry → List ℕ → ℕ
row_in [] key = 0
row_in (e ∷ es) key = cond (same_key e.key key) e.row (row_in es key)

-- The list without an identifier.
unfoldable pub without : List Entry → List ℕ → List Entry
without [] key = []
without (e ∷ es) key = cond (same_key e.key key) (without es key) (e ∷ without es key)

-- ---- one command

-- What the list is told: whether all placements fit, and how many children, or steps, move.
pub record Told : Type 0 where
  pub fitted : Bool
  pub count : ℕ

-- What the placement rule says of a command on a table.
unfoldable pub told : Profile → ℕ → Table → Command → Told
told P last t (insert key n) = record { fitted = (inserted P last t key n).fitted; count = (inserted P last t key n).count }
told P last t (delete key) = record { fitted = true; count = 0 }
told P last t (find key) = record { fitted = true; count = 0 }
told P last t (compact n) = record { fitted = true; count = (compacted P n t).count }

-- The list's answer, and the list after it.
pub record Reply : Type 0 where
  pub answer : Answer
  pub list : List Entry

module _ (P : Profile) (news : Told) (es : List Entry) where
  -- An answer that leaves the list as it is.
  abbrev pub kept : Answer → Reply
  kept a = record { answer = a; list = es }

  -- PRESENT, ABSENT, NO ROOM or done, at the row that the list holds for the identifier.
  unfoldable pub heard : Command → Reply
  heard (insert key n) =
      let held = row_in es key in
      let done : Reply = record { answer = counted news.count; list = record { key = key; row = n } ∷ es } in
      let new = cond news.fitted done (kept (Err NoRoom)) in
      cond (ltb 0 held) (kept (present held)) new
  heard (delete key) =
      let held = row_in es key in
      let done : Reply = record { answer = found held; list = without es key } in
      cond (ltb 0 held) done (kept (Err Absent))
  heard (find key) = kept (found_or_absent (row_in es key))
  heard (compact n) = kept (counted news.count)

  -- KEY, NUMBER, then what the command itself meets.
  unfoldable pub replied : Command → Reply
  replied command =
      let numbered = cond (number_allowed command) (heard command) (kept (Err Number)) in
      cond (key_allowed P command) numbered (kept (Err Key))

-- ---- any sequence of commands, on both

-- The answers given, the table and the list at the end.
pub record History : Type 0 where
  pub answers : List Answer
  pub replies : List Answer
  pub table : Table
  pub list : List Entry

unfoldable pub history : Profile → ℕ → Table → List Entry → List Command → History
history P last t es [] = record { answers = []; replies = []; table = t; list = es }
history P last t es (c ∷ cs) =
    let o = answered P last t true c in
    let r = replied P (told P last t c) es c in
    let on = history P last o.table r.list cs in
    record { answers = o.answer ∷ on.answers; replies = r.answer ∷ on.replies; table = on.table; list = on.list }

-- ---- what is said of the two

-- A sound table that the arrays hold, and a list with the row of every identifier.
pub record Agrees (P : Profile) (last : ℕ) (t : Table) (es : List Entry) : Type 0 where
  pub sound : Sound P t
  pub fits : t.size ≤ last
  pub rows : (key : List ℕ) → lookup P t.cells key ≡ row_in es key

-- One command: the same answer, and what is left agrees.
pub record Together (P : Profile) (last : ℕ) (o : Outcome) (r : Reply) : Type 0 where
  pub answer : o.answer ≡ r.answer
  pub left : Agrees P last o.table r.list

-- A history: the list gave the table's answers throughout, and agrees with it at the end.
pub record Followed (P : Profile) (last : ℕ) (h : History) : Type 0 where
  pub answers : h.answers ≡ h.replies
  pub left : Agrees P last h.table h.list

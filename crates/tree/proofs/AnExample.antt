-- README's worked example, computed: what the table answers to its lines, with a row that is held, an identifier and a row that are
-- none, and arrays too short for an insertion. Assumes nothing.
use mathlib.Core.Path.{◌≡◌, refl}
use mathlib.Core.List.{List, [], ◌∷◌}
use Prim.Native.Nat.{ℕ}
use Rattle.rules.specs.Ranges.{within, first_from}
use Rattle.rules.specs.Answers.{Answer, counted, found, present}
use Rattle.rules.specs.WhatTheIndexDoes.{code_of, document01, coded, is_identifier, labels, is_row}
use Rattle.rules.specs.Table.{empty, update, used, largest_used, next, walk, node, lookup, child_codes, childless}
use Rattle.rules.specs.Placement.{greatest_of, opens, placed, fits}
use Rattle.rules.specs.Insertion.{to, renamed, moved, relocate, grow, collide, extend, insert_from, inserted}
use Rattle.rules.specs.DeletionAndCompaction.{trimmed, prune, compaction_step, compaction_steps, deleted, compacted}
use Rattle.rules.specs.Commands.{Command, insert, delete, find, compact, key_allowed, number_allowed, carried_out, answered}
use Rattle.tree.specs.ThePlainList.{history}
use Rattle.rules.specs.declared.Refusal.TheVariants.{Key, Number, Absent, NoRoom}
use Rattle.std.specs.Prelude.{Err}

-- What the empty table answers to commands, in arrays with this last cell.
unfoldable pub answers_in : ℕ → List Command → List Answer
unfolding within first_from code_of coded is_identifier labels is_row empty update used largest_used next walk node lookup child_codes childless greatest_of opens placed fits to renamed moved relocate grow collide extend insert_from inserted trimmed prune compaction_step compaction_steps deleted compacted key_allowed number_allowed carried_out answered history
answers_in last cs = (history document01 last empty [] cs).answers

-- The lines of the example: `ab` is 97, 98, and `a` is 97.
pub example : answers_in 4095 (insert (97 ∷ (98 ∷ [])) 7 ∷ (insert (97 ∷ []) 9 ∷ (find (97 ∷ (98 ∷ [])) ∷ (delete (97 ∷ (98 ∷ [])) ∷ (find (97 ∷ (98 ∷ [])) ∷ (compact 5 ∷ [])))))) ≡
    (counted 0 ∷ (counted 1 ∷ (found 7 ∷ (found 7 ∷ ((Err Absent) ∷ (counted 0 ∷ []))))))
unfolding answers_in
example = refl

-- PRESENT; capital A is no identifier; 0 is no row.
pub example_refused : answers_in 4095 (insert (97 ∷ []) 9 ∷ (insert (97 ∷ []) 3 ∷ (find (65 ∷ []) ∷ (insert (97 ∷ (98 ∷ [])) 0 ∷ [])))) ≡
    (counted 0 ∷ (present 9 ∷ ((Err Key) ∷ ((Err Number) ∷ []))))
unfolding answers_in
example_refused = refl

-- The label of z leads from base 1 to cell 28.
pub example_no_room : answers_in 27 (insert (122 ∷ []) 7 ∷ []) ≡ ((Err NoRoom) ∷ [])
unfolding answers_in
example_no_room = refl

pub example_room : answers_in 28 (insert (122 ∷ []) 7 ∷ []) ≡ (counted 0 ∷ [])
unfolding answers_in
example_room = refl

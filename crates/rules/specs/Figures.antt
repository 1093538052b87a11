-- Document 01, 'Figures to reproduce': P1 to P12 in one table, under one theorem, by computation.
use Rattle.std.specs.Prelude.{◌≡◌, refl, ℕ, Bool, not, ◌&&◌, ◌||◌, List, [], ◌∷◌, ◌++◌, map, replicate, set, ℤ, leb, eqb, Err}
use Rattle.numbers.specs.Stored.{positive, negative}
use Rattle.rules.specs.Ranges.{within, each_to, some_to, first_from}
use Rattle.rules.specs.Answers.{Answer, counted, found}
use Rattle.rules.specs.WhatTheIndexDoes.{document01, code_of, character_of, coded, is_identifier, labels, is_row, right_lengths}
use Rattle.rules.specs.Table.{update, used, largest_used, next, walk, node, lookup, child_codes, childless}
use Rattle.rules.specs.ASoundTable.{holds, used_at, free_at, next_free_at, has_child, code_at, home, others, rule1, rule2, rule3, rule4, rule5, rule6, rule7, sound, fresh_base, fresh_check}
use Rattle.rules.specs.Finding.{leads, next_at, walk_at, leaf_after, leaf_at, row_of, row_found}
use Rattle.rules.specs.Placement.{least_of, greatest_of, opens, placed, fits, sought}
use Rattle.rules.specs.Insertion.{to, renamed, moved, relocate, grow, collide, extend, insert_from, inserted}
use Rattle.rules.specs.DeletionAndCompaction.{trimmed, prune, compaction_step, compaction_steps, deleted, compacted}
use Rattle.rules.specs.Listing.{listed, spelt, tried, visited, entries, digit, hex, hexes, line_of, lines_of, listing}
use Rattle.rules.specs.Commands.{Command, insert, delete, compact, key_allowed, number_allowed, carried_out, answered}
use Rattle.rules.specs.Rendering.{Kind, chained, next_free, base_holds, base_of, check_of, elements, render_base, render_check, read_cells, read_table}
use Rattle.rules.specs.ARun.{joined, sheet_lines, nibble, digits, read_on, field, pairs, command_of, parsed, answer_bytes, answered_line, answered_lines}
use Rattle.rules.specs.PlainMethod.{plain_rule2, plain_rule3, plain_sound}
use Rattle.rules.specs.Calls.{Ran, fresh_call, find_call, stored, edit_call, command_call, audit_call, sound_list, list_call, sound_run, run_call}
use Rattle.rules.specs.declared.Refusal.TheVariants.{Damaged, NoRoom}

-- ---- how the figures are written

-- What is done in a figure: a call; or the search for a base for codes where some cells up to the size are used, by trying
-- 1, 2, 3 and upward, or along the chain of the others.
pub data Step : Type 0 where
  fresh : Step
  command : Command → Step
  audit : Step
  list : Step
  run : List ℕ → Step
  place : (ℕ → Bool) → ℕ → List ℕ → Step
  seek : (ℕ → Bool) → ℕ → List ℕ → Step

-- A figure: the arrays and the buffer before, what is done, and what is there after it.
pub record Figure : Type 0 where
  pub base : List ℤ
  pub check : List ℤ
  pub out : List ℕ
  pub step : Step
  pub shown : Ran

-- What the definitions give for a step on a kind of table.
unfoldable pub given : Kind → Step → List ℤ → List ℤ → List ℕ → Ran
unfolding
    within each_to some_to first_from code_of character_of coded is_identifier labels is_row right_lengths
    update used largest_used next walk node lookup child_codes childless
    holds used_at free_at next_free_at has_child code_at home others rule1 rule2 rule3 rule4 rule5 rule6 rule7 sound fresh_base fresh_check
    leads next_at walk_at leaf_after leaf_at row_of row_found
    least_of greatest_of opens placed fits sought
    to renamed moved relocate grow collide extend insert_from inserted
    trimmed prune compaction_step compaction_steps deleted compacted
    listed spelt tried visited entries digit hex hexes line_of lines_of listing
    key_allowed number_allowed carried_out answered
    next_free base_holds base_of check_of elements render_base render_check read_cells read_table
    joined sheet_lines nibble digits read_on field pairs command_of parsed answer_bytes answered_line answered_lines
    plain_rule2 plain_rule3 plain_sound
    fresh_call find_call stored edit_call command_call audit_call sound_list list_call sound_run run_call
given K fresh base check out =
    let e = fresh_call document01 base check in
    record { answer = e.answer; base = e.base; check = e.check; out = out }
given K (command c) base check out =
    let e = command_call K document01 base check c in
    record { answer = e.answer; base = e.base; check = e.check; out = out }
given K audit base check out =
    record { answer = audit_call K document01 base check; base = base; check = check; out = out }
given K list base check out =
    let w = list_call K document01 base check out in
    record { answer = w.answer; base = base; check = check; out = w.out }
given K (run sheet) base check out = run_call K document01 base check sheet out
given K (place taken size codes) base check out =
    record { answer = counted (placed taken size codes); base = base; check = check; out = out }
given K (seek taken size codes) base check out =
    record { answer = counted (sought (λ t. not (taken t)) taken size codes); base = base; check = check; out = out }

-- A figure that lends no buffer.
abbrev pub figure : List ℤ → List ℤ → Step → Answer → List ℤ → List ℤ → Figure
figure base check step answer base' check' = record {
  base = base;
  check = check;
  out = [];
  step = step;
  shown = record { answer = answer; base = base'; check = check'; out = [] };
}

-- A figure of a search, with the base that it gives.
abbrev pub search : Step → ℕ → Figure
search step q = figure [] [] step (counted q) [] []

-- The number n.
abbrev p : ℕ → ℤ
p = positive

-- Minus n.
abbrev m : ℕ → ℤ
m = negative

-- The identifier a.
abbrev a : List ℕ
a = 97 ∷ []

-- The identifier b.
abbrev b : List ℕ
b = 98 ∷ []

-- The identifier ab.
abbrev ab : List ℕ
ab = 97 ∷ 98 ∷ []

-- ---- the arrays, element 0 first

-- P1's base.
abbrev pub base1 : List ℤ
base1 = p 1 ∷ p 1 ∷ p 0 ∷ p 0 ∷ p 0 ∷ p 0 ∷ p 0 ∷ p 0 ∷ p 0 ∷ []

-- P1's check.
abbrev pub check1 : List ℤ
check1 = m 2 ∷ p 1 ∷ p 0 ∷ p 0 ∷ p 0 ∷ p 0 ∷ p 0 ∷ p 0 ∷ p 0 ∷ []

-- P2's base.
abbrev pub base2 : List ℤ
base2 = p 4 ∷ p 1 ∷ m 7 ∷ p 1 ∷ p 1 ∷ p 0 ∷ p 0 ∷ p 0 ∷ p 0 ∷ []

-- P2's check.
abbrev pub check2 : List ℤ
check2 = m 5 ∷ p 1 ∷ p 4 ∷ p 1 ∷ p 3 ∷ p 0 ∷ p 0 ∷ p 0 ∷ p 0 ∷ []

-- P3's base.
abbrev pub base3 : List ℤ
base3 = p 7 ∷ p 1 ∷ m 7 ∷ p 4 ∷ p 0 ∷ m 9 ∷ p 0 ∷ p 1 ∷ p 0 ∷ []

-- P3's check.
abbrev pub check3 : List ℤ
check3 = m 4 ∷ p 1 ∷ p 7 ∷ p 1 ∷ m 6 ∷ p 3 ∷ m 8 ∷ p 3 ∷ p 0 ∷ []

-- P4's base.
abbrev pub base4 : List ℤ
base4 = p 6 ∷ p 1 ∷ m 7 ∷ p 3 ∷ m 9 ∷ p 0 ∷ p 1 ∷ p 0 ∷ p 0 ∷ []

-- P4's check.
abbrev pub check4 : List ℤ
check4 = m 5 ∷ p 1 ∷ p 6 ∷ p 1 ∷ p 3 ∷ m 7 ∷ p 3 ∷ p 0 ∷ p 0 ∷ []

-- P5's base.
abbrev pub base5 : List ℤ
base5 = p 3 ∷ p 1 ∷ m 9 ∷ p 1 ∷ p 0 ∷ p 0 ∷ p 0 ∷ p 0 ∷ p 0 ∷ []

-- P5's check.
abbrev pub check5 : List ℤ
check5 = m 4 ∷ p 1 ∷ p 3 ∷ p 1 ∷ p 0 ∷ p 0 ∷ p 0 ∷ p 0 ∷ p 0 ∷ []

-- What P7 prints: 016100000009, then 02616200000007.
abbrev pub listing7 : List ℕ
listing7 =
    48 ∷ 49 ∷ 54 ∷ 49 ∷ 48 ∷ 48 ∷ 48 ∷ 48 ∷ 48 ∷ 48 ∷ 48 ∷ 57 ∷ 10
    ∷ 48 ∷ 50 ∷ 54 ∷ 49 ∷ 54 ∷ 50 ∷ 48 ∷ 48 ∷ 48 ∷ 48 ∷ 48 ∷ 48 ∷ 48 ∷ 55 ∷ 10 ∷ []

-- P11's used cells: free are 28, 29, 31 to 36, 38 and past 39.
abbrev pub taken11 : ℕ → Bool
taken11 t = leb t 39 && not (within 28 29 t || (within 31 36 t || eqb t 38))

-- P12's used cells: free are those and 18, 19, 21, 22.
abbrev pub taken12 : ℕ → Bool
taken12 t = taken11 t && not (within 18 19 t || within 21 22 t)

-- ---- the table

-- P1 to P12, in the document's order.
pub figures : List Figure
figures =
    -- P1: fresh, whatever the old contents
    figure (replicate 9 (p 7)) (replicate 9 (m 7)) fresh (counted 0) base1 check1
    -- P2: P1, insert ab row 7
    ∷ figure base1 check1 (command (insert ab 7)) (counted 0) base2 check2
    -- P3: P2, insert a row 9
    ∷ figure base2 check2 (command (insert a 9)) (counted 1) base3 check3
    -- P4: P3, compact 5
    ∷ figure base3 check3 (command (compact 5)) (counted 1) base4 check4
    -- P5: P3, delete ab
    ∷ figure base3 check3 (command (delete ab)) (found 7) base5 check5
    -- P6: P5, delete a
    ∷ figure base5 check5 (command (delete a)) (found 9) base1 check1
    -- P7: P3 lists; the buffer's bytes past the listing stay
    ∷ record {
      base = base3;
      check = check3;
      out = replicate 30 255;
      step = list;
      shown = record { answer = counted 28; base = base3; check = check3; out = listing7 ++ replicate 2 255 };
    }
    -- P8: fresh of length 4, insert a is done; of length 3, NO ROOM
    ∷ figure (fresh_base 4) (fresh_check document01 4) (command (insert a 9)) (counted 0) (p 3 ∷ p 1 ∷ m 9 ∷ p 1 ∷ []) (m 4 ∷ p 1 ∷ p 3 ∷ p 1 ∷ [])
    ∷ figure (fresh_base 3) (fresh_check document01 3) (command (insert a 9)) (Err NoRoom) (fresh_base 3) (fresh_check document01 3)
    -- P9: fresh of length 4, insert b or ab is NO ROOM; of length 5, both are done
    ∷ figure (fresh_base 4) (fresh_check document01 4) (command (insert b 9)) (Err NoRoom) (fresh_base 4) (fresh_check document01 4)
    ∷ figure (fresh_base 4) (fresh_check document01 4) (command (insert ab 9)) (Err NoRoom) (fresh_base 4) (fresh_check document01 4)
    ∷ figure (fresh_base 5) (fresh_check document01 5) (command (insert b 9)) (counted 0) (p 4 ∷ p 1 ∷ m 9 ∷ p 0 ∷ p 1 ∷ []) (m 3 ∷ p 1 ∷ p 4 ∷ m 5 ∷ p 1 ∷ [])
    ∷ figure (fresh_base 5) (fresh_check document01 5) (command (insert ab 9)) (counted 0) (p 4 ∷ p 1 ∷ m 9 ∷ p 1 ∷ p 1 ∷ []) (m 5 ∷ p 1 ∷ p 4 ∷ p 1 ∷ p 3 ∷ [])
    -- P10: P3 with check[4] = -8 is unsound
    ∷ figure base3 (set check3 4 (m 8)) audit (Err Damaged) base3 (set check3 4 (m 8))
    -- P11: codes 3, 4, 5: base 28
    ∷ search (place taken11 39 (3 ∷ 4 ∷ 5 ∷ [])) 28
    ∷ search (seek taken11 39 (3 ∷ 4 ∷ 5 ∷ [])) 28
    -- P12: codes 21, 23: base 8
    ∷ search (place taken12 39 (21 ∷ 23 ∷ [])) 8
    ∷ search (seek taken12 39 (21 ∷ 23 ∷ [])) 8
    ∷ []

-- Each figure is as the document shows it.
pub figures_hold : map (λ (f : Figure). given chained f.step f.base f.check f.out) figures ≡ map (λ (f : Figure). f.shown) figures
unfolding figures given
figures_hold = refl

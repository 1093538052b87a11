-- An insertion into a table known to be sound: PRESENT where the identifier has a row; otherwise it begins at the node where the walk
-- stopped, and what is left there is what the command leaves. Assumes nothing.
use mathlib.Core.Path.{◌≡◌, refl, sym, ◌∙◌}
use mathlib.Core.Bool.{Bool, true, false, cond}
use mathlib.Core.List.{List}
use Prim.Native.Nat.{ℕ, ◌-◌}
use lib.ListN.{length, take, drop}
use lib.IntN.{ℤ}
use borrow.Author.Tests.{lt-ltb}
use Rattle.std.specs.Prelude.{Option, Some, None, Err}
use Rattle.rules.specs.declared.Refusal.TheVariants.{NoRoom, Present}
use Rattle.rules.specs.declared.Row.{Row}
use Rattle.rules.specs.Answers.{Answer, counted}
use Rattle.rules.specs.WhatTheIndexDoes.{document01, coded, last_cell}
use Rattle.rules.specs.Table.{Table, lookup}
use Rattle.rules.specs.Rendering.{chained, read_table}
use Rattle.rules.specs.Finding.{leaf_at, row_found}
use Rattle.rules.specs.Insertion.{Course, inserted}
use Rattle.rules.specs.Commands.{Outcome, insert, carried_out}
use Rattle.rules.specs.Calls.{stored, sound_edit}
use Rattle.rules.specs.Promised.{Edits}
use Rattle.rules.proofs.Codes.{document01_round_trip}
use Rattle.rules.proofs.Texts.{part_left}
use Rattle.tree.specs.Renders.{Renders}
use Rattle.tree.proofs.ChildCodes.{based_near}
use Rattle.tree.proofs.Labels.{label_low}
use Rattle.tree.proofs.Identifiers.{identifier_coded}
use Rattle.tree.proofs.SevenRules.{rules_render, sound_shows}
use Rattle.tree.proofs.Stopping.{Stops, leaf_none, walk_begins}
use Rattle.cells.specs.Edits.{Shown}
use Rattle.tree.proofs.Outcomes.{shown_same, stored_done, stored_refused}
use Rattle.finding.specs.Reaching.{LooksUp}
use Rattle.finding.proofs.Options.{row_none}
use Rattle.finding.proofs.RowFound.{reached_is}
use Rattle.finding.proofs.KnownSound.{none_held, some_held, held_some}
use Rattle.insertion.specs.Inserting.{extension, Inserts, Extends, Extended}

module _ {base check : List ℤ} {key : List ℕ} {row : ℕ} (i : Inserts base check key row) where
  abbrev t : Table
  t = read_table base check

  renders : Renders chained document01 base check t
  renders = rules_render document01 base check i.whole

  shown : Shown base check t
  shown = sound_shows renders

  coded_key : coded document01 key ≡ true
  coded_key = identifier_coded document01 key i.identifier

  abbrev edit : Answer → List ℤ → List ℤ → Type 0
  edit = Edits (sound_edit chained document01 base check (insert key row))

  module _ {cell met : ℕ} {held : Option Row} (w : LooksUp base check key cell met held) where
    pub is_present : {n : Row} → held ≡ Some n → edit (Err (Present n)) base check
    unfolding sound_edit carried_out read_table
    is_present {n} e =
        rw (some_held base check i.whole key i.identifier w e, lt-ltb 0 n.0 (held_some base check i.whole key i.identifier w e))
        (stored_refused base check t refl refl refl)

    -- ---- the identifier is not live

    module _ (z : held ≡ None) where
      stops : Stops renders (last_cell base) row 1 key (record { cell = cell; met = met })
      unfolding read_table row_found leaf_at
      stops = rw (reached_is (w.walked.reaches coded_key)) (walk_begins renders document01_round_trip (last_cell base) row 1 key coded_key renders.table.tree.root_base
          (leaf_none renders (length key) _ (row_none (sym z ∙ w.row_is coded_key))))

      abbrev rest : List ℕ
      rest = take (length key - met) (drop met key)

      pub extends : Extends base check cell rest row t
      unfolding read_table
      extends = rw (part_left key met) (record {
        shown = shown;
        tree = renders.table.tree;
        based = stops.based;
        near = based_near renders.table cell stops.based;
        low = label_low document01 key met coded_key;
        nowhere = stops.nowhere;
        row_is = i.row_is;
      })

      held_now : lookup document01 t.cells key ≡ 0
      unfolding read_table
      held_now = none_held base check i.whole key i.identifier w z

      -- The course, and the answer to it.
      abbrev course : Course
      course = extension (last_cell base) t cell rest row

      course_is : inserted document01 (last_cell base) t key row ≡ course
      unfolding inserted read_table
      course_is = rw (part_left key met) stops.begins

      module _ {r : Answer} {base' check' : List ℤ} (len : length base' ≡ length base) (x : Extended course t r base' check') where
        -- By whether the course fits.
        carried : (b : Bool) → course.fitted ≡ b →
            let fitting : Outcome = record { answer = counted course.count; table = course.table } in
            let refused : Outcome = record { answer = Err NoRoom; table = t } in
            Edits (stored chained document01 base check (cond b fitting refused)) r base' check'
        carried true f = rw (rw f at x.answer) (stored_done base check refl len (rw f at x.left))
        carried false f = let (b, c) = shown_same shown (rw f at x.left) len in rw (rw f at x.answer) (stored_refused base check t refl b c)

        pub is_carried_out : edit r base' check'
        unfolding sound_edit carried_out
        is_carried_out = rw (held_now, course_is) (carried course.fitted refl)

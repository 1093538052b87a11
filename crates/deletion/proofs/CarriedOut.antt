-- A deletion and a compaction of a table known to be sound: what is asked, and what the commands come to. Assumes nothing.
use mathlib.Core.Path.{◌≡◌, refl}
use mathlib.Core.Bool.{true}
use mathlib.Core.List.{List}
use Prim.Native.Nat.{ℕ, ◌≤◌}
use lib.ListN.{length}
use lib.IntN.{ℤ}
use borrow.Author.Tests.{lt-ltb}
use Rattle.std.specs.Prelude.{Option, Some, None, Ok, Err}
use Rattle.rules.specs.declared.Done.TheVariants.{Row}
use Rattle.rules.specs.declared.Refusal.TheVariants.{Absent}
use Rattle.rules.specs.declared.Row as Rows
use Rattle.rules.specs.Answers.{counted}
use Rattle.rules.specs.WhatTheIndexDoes.{document01}
use Rattle.rules.specs.Table.{Table, lookup}
use Rattle.rules.specs.ASoundTable.{sound}
use Rattle.rules.specs.Rendering.{chained, read_table}
use Rattle.rules.specs.DeletionAndCompaction.{deleted, compacted}
use Rattle.rules.specs.Commands.{delete, compact, carried_out}
use Rattle.rules.specs.Calls.{sound_edit}
use Rattle.rules.specs.Promised.{Edits}
use Rattle.tree.proofs.SevenRules.{rules_render, sound_shows}
use Rattle.cells.specs.Edits.{Shown}
use Rattle.tree.proofs.Outcomes.{stored_done, stored_refused}
use Rattle.finding.specs.Reaching.{LooksUp}
use Rattle.finding.proofs.KnownSound.{none_held, some_held, held_some, node_held}
use Rattle.compaction.specs.Lowering.{Steps, Moved}
use Rattle.deletion.specs.Deleting.{Deletes, Removes}

pub sound_steps : {base check : List ℤ} → sound document01 base check ≡ true → Steps base check (read_table base check)
sound_steps {base} {check} whole = let r = rules_render document01 base check whole in record { shown = sound_shows r; whole = r.table }

-- ---- a deletion

module _ {base check : List ℤ} {key : List ℕ} (a : Deletes base check key) {cell met : ℕ} {row : Option Rows.Row}
    (w : LooksUp base check key cell met row) where
  abbrev t : Table
  t = read_table base check

  pub is_absent : row ≡ None → Edits (sound_edit chained document01 base check (delete key)) (Err Absent) base check
  unfolding sound_edit carried_out read_table
  is_absent z =
      rw (none_held base check a.whole key a.identifier w z) (stored_refused base check t refl refl refl)

  module _ {n : Rows.Row} (e : row ≡ Some n) where
    held_is : lookup document01 t.cells key ≡ n.0
    unfolding read_table
    held_is = some_held base check a.whole key a.identifier w e

    some : 1 ≤ n.0
    some = held_some base check a.whole key a.identifier w e

    pub removes : Removes base check cell key t
    unfolding read_table
    removes =
        let s = sound_steps a.whole in
        record { shown = s.shown; whole = s.whole; live = rw held_is some; node_is = node_held base check a.whole key a.identifier w e }

    pub is_removed : {base' check' : List ℤ} → length base' ≡ length base → Shown base' check' (deleted document01 t key) →
        Edits (sound_edit chained document01 base check (delete key)) (Ok (Row n)) base' check'
    unfolding sound_edit carried_out
    is_removed len s = rw (held_is, lt-ltb 0 n.0 some) (stored_done base check refl len s)

-- ---- a compaction

pub is_compacted : (base check : List ℤ) (n : ℕ) {r : ℕ} {base' check' : List ℤ} → length base' ≡ length base →
    Moved (compacted document01 n (read_table base check)) r base' check' →
    Edits (sound_edit chained document01 base check (compact n)) (counted r) base' check'
unfolding sound_edit carried_out
is_compacted base check n len m = rw m.count_is (stored_done base check refl len m.left)

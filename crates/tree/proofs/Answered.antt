-- What a command that is answered on the table of two arrays leaves in each of its cases, in the order of the tests. Assumes nothing.
use mathlib.Core.Path.{◌≡◌, refl}
use mathlib.Core.Bool.{Bool, true, false}
use mathlib.Core.List.{List}
use lib.IntN.{ℤ}
use Rattle.rules.specs.WhatTheIndexDoes.{document01, last_cell}
use Rattle.rules.specs.Rendering.{chained, read_table}
use Rattle.rules.specs.Commands.{Command, key_allowed, number_allowed, answered}
use Rattle.rules.specs.Calls.{stored, sound_edit}
use Rattle.rules.specs.Promised.{Edits}
use Rattle.tree.proofs.Outcomes.{stored_refused}
use Rattle.rules.specs.Answers.{Answer}
use Rattle.rules.specs.declared.Refusal.TheVariants.{Key, Number, Damaged}
use Rattle.std.specs.Prelude.{Err}

-- For any verdict of the audit.
module _ (base check : List ℤ) (whole : Bool) (command : Command) where
  abbrev pub Leaves : Answer → List ℤ → List ℤ → Type 0
  Leaves = Edits (stored chained document01 base check (answered document01 (last_cell base) (read_table base check) whole command))

  pub answered_key : key_allowed document01 command ≡ false → Leaves (Err Key) base check
  unfolding answered
  answered_key k = rw k (stored_refused base check (read_table base check) refl refl refl)

  module _ (k : key_allowed document01 command ≡ true) where
    pub answered_number : number_allowed command ≡ false → Leaves (Err Number) base check
    unfolding answered
    answered_number n = rw (k, n) (stored_refused base check (read_table base check) refl refl refl)

    module _ (n : number_allowed command ≡ true) where
      pub answered_damaged : whole ≡ false → Leaves (Err Damaged) base check
      unfolding answered
      answered_damaged w = rw (k, n, w) (stored_refused base check (read_table base check) refl refl refl)

      pub answered_sound : whole ≡ true → {r : Answer} {base' check' : List ℤ} →
          Edits (sound_edit chained document01 base check command) r base' check' → Leaves r base' check'
      unfolding answered sound_edit
      answered_sound w e = rw (k, n, w) e

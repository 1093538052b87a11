-- What an edit's call promises in each of its cases, in the order of its tests: SIZE, and then those of the command's answer. Assumes
-- nothing.
use mathlib.Core.Path.{◌≡◌, refl}
use mathlib.Core.Bool.{Bool, true, false}
use mathlib.Core.List.{List}
use lib.IntN.{ℤ}
use Rattle.std.specs.Prelude.{Err}
use Rattle.rules.specs.declared.Refusal.TheVariants.{Size, Key, Number, Damaged}
use Rattle.rules.specs.Answers.{Answer}
use Rattle.rules.specs.WhatTheIndexDoes.{document01, right_lengths}
use Rattle.rules.specs.ASoundTable.{sound}
use Rattle.rules.specs.Rendering.{chained}
use Rattle.rules.specs.Commands.{Command, key_allowed, number_allowed}
use Rattle.rules.specs.Calls.{sound_edit, edit_call}
use Rattle.rules.specs.Promised.{Edits}
use Rattle.tree.proofs.Answered.{Leaves, answered_key, answered_number, answered_damaged, answered_sound}

module _ (base check : List ℤ) (command : Command) where
  abbrev call : Answer → List ℤ → List ℤ → Type 0
  call = Edits (edit_call chained document01 base check command)

  abbrev verdict : Bool
  verdict = sound document01 base check

  pub edit_size : right_lengths base check ≡ false → call (Err Size) base check
  unfolding edit_call
  edit_size l = rw l (record { answer = refl; base_is = refl; check_is = refl })

  module _ (l : right_lengths base check ≡ true) where
    past_size : {r : Answer} {base' check' : List ℤ} → Leaves base check verdict command r base' check' → call r base' check'
    unfolding edit_call
    past_size e = rw l e

    pub edit_key : key_allowed document01 command ≡ false → call (Err Key) base check
    edit_key k = past_size (answered_key base check verdict command k)

    module _ (k : key_allowed document01 command ≡ true) where
      pub edit_number : number_allowed command ≡ false → call (Err Number) base check
      edit_number n = past_size (answered_number base check verdict command k n)

      module _ (n : number_allowed command ≡ true) where
        pub edit_damaged : sound document01 base check ≡ false → call (Err Damaged) base check
        edit_damaged s = past_size (answered_damaged base check verdict command k n s)

        pub edit_sound : sound document01 base check ≡ true → {r : Answer} {base' check' : List ℤ} →
            Edits (sound_edit chained document01 base check command) r base' check' → call r base' check'
        edit_sound s e = past_size (answered_sound base check verdict command k n s e)

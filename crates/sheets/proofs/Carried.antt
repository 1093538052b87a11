-- What a line leaves that looks an identifier up, and one that is no command. Assumes nothing.
use mathlib.Core.Path.{◌≡◌, refl}
use mathlib.Core.Bool.{true}
use mathlib.Core.List.{List}
use mathlib.Core.Option.{Option, none, some}
use Prim.Native.Nat.{ℕ}
use lib.IntN.{ℤ}
use Rattle.std.specs.Prelude.{Err}
use Rattle.rules.specs.declared.Refusal.TheVariants.{Line}
use Rattle.rules.specs.Answers.{Answer, found_or_absent}
use Rattle.rules.specs.WhatTheIndexDoes.{document01, is_identifier}
use Rattle.rules.specs.ASoundTable.{sound}
use Rattle.rules.specs.Rendering.{read_table}
use Rattle.rules.specs.Commands.{Command, find}
use Rattle.rules.specs.ARun.{answered_line}
use Rattle.rules.specs.Calls.{find_call, command_call}
use Rattle.rules.specs.Promised.{Edits}
use Rattle.tree.proofs.SevenRules.{rules_render}
use Rattle.tree.proofs.SingleCalls.{chained_audited, single_stored}
use Rattle.tree.proofs.Outcomes.{stored_refused}
use Rattle.rules.specs.Finding.{row_found}
use Rattle.sheets.specs.Answering.{line_edit}

module _ (base check : List ℤ) where
  -- find answers as the walk does, and the arrays stay.
  pub looked_up : sound document01 base check ≡ true → (key : List ℕ) → is_identifier document01 key ≡ true → {r : Answer} →
      r ≡ found_or_absent (row_found base check document01 key) → Edits (line_edit base check (some (find key))) r base check
  unfolding answered_line command_call find_call
  looked_up e key k a =
      rw (← single_stored (chained_audited document01) base check e (find key), (rules_render document01 base check e).lengths, k)
      (record { answer = a; base_is = refl; check_is = refl })

  -- What is no command is refused as LINE.
  pub refused : {o : Option Command} → o ≡ none → Edits (line_edit base check o) (Err Line) base check
  unfolding answered_line
  refused n = rw n (stored_refused base check (read_table base check) refl refl refl)

-- On arrays that pass the audit every single call, find and the refusals included, leaves the rendering of the table that its
-- command leaves. Over any kind of table whose audit passes just the renderings of sound tables, as both audits do. Assumes nothing.
use mathlib.Core.Path.{◌≡◌, refl, sym, ap₂, ◌∙◌}
use mathlib.Core.Bool.{true}
use mathlib.Core.List.{List}
use mathlib.Core.Option.{Option, none, some}
use Prim.Native.Nat.{ℕ}
use lib.ListN.{length}
use lib.IntN.{ℤ}
use Rattle.rules.specs.Answers.{Answer, is_done}
use Rattle.rules.specs.WhatTheIndexDoes.{Profile, is_identifier, last_cell}
use Rattle.rules.specs.Table.{Table}
use Rattle.rules.specs.Commands.{Command, insert, delete, find, compact, Outcome, key_allowed, number_allowed, carried_out, answered}
use Rattle.rules.specs.Rendering.{Kind, chained, render_base, render_check, read_table}
use Rattle.rules.specs.PlainMethod.{plain}
use Rattle.rules.specs.ARun.{answered_line}
use Rattle.rules.specs.Calls.{Edited, find_call, stored, edit_call, command_call}
use Rattle.rules.proofs.Choices.{branch, branch₂}
use Rattle.tree.specs.Renders.{Renders}
use Rattle.tree.proofs.Identifiers.{identifier_coded}
use Rattle.tree.proofs.Refusals.{refused_unchanged}
use Rattle.tree.proofs.SevenRules.{rules_render, render_rules, plain_rules_render, plain_render_rules}
use Rattle.tree.proofs.Finding.{rendered_row}
use Rattle.rules.specs.declared.Refusal.TheVariants.{Line}
use Rattle.std.specs.Prelude.{Err}

-- ---- the audits

-- An audit that passes exactly the renderings of sound tables.
pub record Audited (K : Kind) (P : Profile) : Type 0 where
  pub renders : (base check : List ℤ) → K.audit P base check ≡ true → Renders K P base check (read_table base check)
  pub passes : (base check : List ℤ) (t : Table) → Renders K P base check t → K.audit P base check ≡ true

pub chained_audited : (P : Profile) → Audited chained P
chained_audited P = record { renders = rules_render P; passes = render_rules P }

pub plain_audited : (P : Profile) → Audited plain P
plain_audited P = record { renders = plain_rules_render P; passes = plain_render_rules P }

-- ---- a call

module _ {K : Kind} {P : Profile} (audited : Audited K P) (base check : List ℤ) (e : K.audit P base check ≡ true) where
  abbrev t : Table
  t = read_table base check

  r : Renders K P base check t
  r = audited.renders base check e

  -- The table's rendering, whatever the answer is.
  abbrev pub rendered : Outcome → Edited
  rendered o = record { answer = o.answer; base = render_base (length base) o.table; check = render_check K P (length base) o.table }

  kept_rendered : (a : Answer) → record { answer = a; base = base; check = check } ≡ rendered (record { answer = a; table = t })
  kept_rendered a = ap₂ (λ (b c : List ℤ). record { answer = a; base = b; check = c }) r.base_is r.check_is

  -- It is what is stored, also where the command is refused: the arrays are the rendering of their own table.
  pub stored_rendered : (c : Command) → let o = answered P (last_cell base) t true c in stored K P base check o ≡ rendered o
  unfolding stored
  stored_rendered c =
      let o = answered P (last_cell base) t true c in
      branch (λ (x : Edited). x ≡ rendered o) (is_done o.answer) (λ _. refl)
      (λ f. rw (refused_unchanged P (last_cell base) t true c f) (kept_rendered o.answer))

  -- The same of a run's line, LINE included.
  pub line_rendered : (c : Option Command) → let o = answered_line P (last_cell base) t c in stored K P base check o ≡ rendered o
  unfolding answered_line stored
  line_rendered none = kept_rendered (Err Line)
  line_rendered (some c) = stored_rendered c

  find_rendered : (key : List ℕ) → record { answer = find_call P base check key; base = base; check = check } ≡
      rendered (answered P (last_cell base) t true (find key))
  unfolding find_call answered carried_out key_allowed number_allowed read_table
  find_rendered key = rw r.lengths (branch₂ (λ (a : Answer) (o : Outcome). record { answer = a; base = base; check = check } ≡ rendered o)
      (is_identifier P key)
      (λ k. rw (rendered_row r key (identifier_coded P key k)) (kept_rendered _))
      (λ _. kept_rendered _))

  -- A single call stores what its command leaves.
  pub single_stored : (c : Command) → command_call K P base check c ≡ stored K P base check (answered P (last_cell base) t true c)
  unfolding command_call edit_call
  single_stored (insert key n) = rw (r.lengths, e)
  single_stored (delete key) = rw (r.lengths, e)
  single_stored (find key) = find_rendered key ∙ sym (stored_rendered (find key))
  single_stored (compact n) = rw (r.lengths, e)

  pub single_rendered : (c : Command) → command_call K P base check c ≡ rendered (answered P (last_cell base) t true c)
  single_rendered c = single_stored c ∙ stored_rendered c

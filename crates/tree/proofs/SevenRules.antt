-- Rules 1 to 7 hold of two arrays exactly if they are the rendering of a sound table, and that table is the one read from them;
-- so too for the plain method. Assumes nothing.
use mathlib.Core.Path.{◌≡◌, sym, ap, ap₂, ◌∙◌, subst}
use mathlib.Core.Bool.{Bool, true, ◌&&◌}
use mathlib.Core.List.{List}
use Prim.Native.Nat.{ℕ, suc}
use lib.ListN.{length}
use lib.IntN.{ℤ}
use Rattle.numbers.specs.Stored.{minus_of, minus_at}
use Rattle.rules.specs.WhatTheIndexDoes.{Profile}
use Rattle.rules.specs.Table.{Table}
use Rattle.rules.specs.ASoundTable.{holds, home, used_at, rule1, rule2, rule3, rule4, rule5, rule6, rule7, sound}
use Rattle.rules.specs.Rendering.{Kind, chained, read_table}
use Rattle.rules.specs.PlainMethod.{plain, plain_rule2, plain_rule3, plain_sound}
use Rattle.rules.proofs.Choices.{both, join}
use Rattle.tree.specs.Renders.{Renders, Shows}
use Rattle.tree.proofs.Trees.{tree_tidy}
use Rattle.tree.proofs.Elements.{read_rendered}
use Rattle.tree.proofs.ReadTests.{holds_is, Bounded, first_rule, rule_first, Vacant}
use Rattle.tree.proofs.FreeCells.{rules_vacant, vacant_rule2, vacant_rule3, plain_vacant, vacant_plain2, vacant_plain3}
use Rattle.tree.proofs.FromRules.{ruled_render}
use Rattle.tree.proofs.ToRules.{rendered_long, render_ruled, render_home}

-- A sound table is a tidy one.
pub sound_shows : {K : Kind} {P : Profile} {base check : List ℤ} {t : Table} → Renders K P base check t → Shows K P base check t
sound_shows r = record {
  lengths = r.lengths;
  table = tree_tidy r.table.tree;
  fits = r.fits;
  base_is = r.base_is;
  check_is = r.check_is;
}

-- The arrays show one table only: the one read from them.
pub one_tidy_table : {K : Kind} {P : Profile} {base check : List ℤ} (t : Table) → Shows K P base check t → t ≡ read_table base check
one_tidy_table {K} {P} {base} t s =
    sym (ap₂ read_table s.base_is s.check_is ∙ read_rendered K P t s.table (length base) (rendered_long s))

pub one_table : {K : Kind} {P : Profile} {base check : List ℤ} (t : Table) → Renders K P base check t → t ≡ read_table base check
one_table t r = one_tidy_table t (sound_shows r)

module _ (P : Profile) (base check : List ℤ) where
  -- ---- rules 1 and 4 to 7 are those of every kind; a kind's own stand between them

  -- Rules 4 to 7.
  abbrev rest : Bool
  rest = rule4 P base check && (rule5 P base check && (rule6 P base check && rule7 P base check))

  pub root_mark : rule4 P base check ≡ true → minus_at check 1 ≡ 0
  unfolding rule4
  root_mark e = ap minus_of (holds_is check 1 P.mark (both (holds check 1 P.mark) _ e).0)

  -- A kind's own two rules say what a cell that is not used holds.
  abbrev Says : Kind → Bool → Bool → Type 0
  Says K second third = Bounded base check → minus_at check 1 ≡ 0 → second ≡ true → third ≡ true → Vacant K base check

  abbrev Said : Kind → Bool → Type 0
  Said K rule = Bounded base check → minus_at check 1 ≡ 0 → Vacant K base check → rule ≡ true

  module _ {K : Kind} (second third : Bool) where
    audit_render : Says K second third → (rule1 base check && (second && (third && rest))) ≡ true → Renders K P base check (read_table base check)
    audit_render says e =
        let (e₁, m) = both (rule1 base check) _ e in
        let (e₂, m) = both second _ m in
        let (e₃, m) = both third rest m in
        let (e₄, m) = both (rule4 P base check) _ m in
        let (e₅, m) = both (rule5 P base check) _ m in
        let (e₆, e₇) = both (rule6 P base check) _ m in
        let b = first_rule base check e₁ in
        ruled_render (record { bounded = b; vacant = says b (root_mark e₄) e₂ e₃; fourth = e₄; fifth = e₅; sixth = e₆; seventh = e₇ })

    render_audit : Said K second → Said K third → (t : Table) → Renders K P base check t → (rule1 base check && (second && (third && rest))) ≡ true
    render_audit says also t r =
        let k = render_ruled (subst (Renders K P base check) (one_table t r) r) in
        let b = k.bounded in
        let mark = root_mark k.fourth in
        join (rule_first base check b) (join (says b mark k.vacant) (join (also b mark k.vacant)
        (join k.fourth (join k.fifth (join k.sixth k.seventh)))))

  -- ---- document 01's kind

  pub rules_render : sound P base check ≡ true → Renders chained P base check (read_table base check)
  unfolding sound
  rules_render = audit_render (rule2 base check) (rule3 base check) rules_vacant

  pub render_rules : (t : Table) → Renders chained P base check t → sound P base check ≡ true
  unfolding sound
  render_rules = render_audit (rule2 base check) (rule3 base check) vacant_rule2 vacant_rule3

  -- Every used cell climbs to the root in at most limit + 1 steps.
  pub climbs_home : sound P base check ≡ true → (t : ℕ) → used_at base check t ≡ true → home check (suc P.limit) t ≡ true
  climbs_home e = render_home (rules_render e)

  -- ---- the plain method's kind

  pub plain_rules_render : plain_sound P base check ≡ true → Renders plain P base check (read_table base check)
  unfolding plain_sound
  plain_rules_render = audit_render (plain_rule2 base check) (plain_rule3 base check) (λ b mark. plain_vacant b)

  pub plain_render_rules : (t : Table) → Renders plain P base check t → plain_sound P base check ≡ true
  unfolding plain_sound
  plain_render_rules = render_audit (plain_rule2 base check) (plain_rule3 base check) (λ b mark. vacant_plain2 b) (λ b mark. vacant_plain3 b)

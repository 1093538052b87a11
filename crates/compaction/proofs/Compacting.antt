-- Compaction in the arrays: what the parts of a step are asked and what they leave, and what steps come to that follow each other.
-- Assumes nothing.
use mathlib.Core.Path.{◌≡◌, refl, sym, ap, ◌∙◌}
use mathlib.Core.Logic.{◌≢◌}
use mathlib.Core.List.{List, ◌∷◌}
use Prim.Native.Nat.{ℕ, suc, ◌+◌, ◌-◌, ◌≤◌, ◌<◌}
use native.Mathlib.Nat.{zero-add, sub-zero}
use native.Mathlib.Omega.{arith}
use lib.ListN.{length, take, drop}
use lib.IntN.{ℤ}
use Rattle.numbers.specs.Stored.{plus_at}
use Rattle.rules.specs.WhatTheIndexDoes.{GREATEST, document01}
use Rattle.rules.specs.Table.{Cells, Table, used, largest_used, child_codes}
use Rattle.rules.specs.Placement.{placed}
use Rattle.rules.specs.Insertion.{relocate}
use Rattle.rules.specs.DeletionAndCompaction.{Moves, trimmed, compaction_step, compaction_steps}
use Rattle.tree.specs.Soundness.{Sits, Sound}
use Rattle.tree.specs.StepsTaken.{top, owner, target, Lowers}
use Rattle.tree.proofs.Trees.{based_pos, based_inside}
use Rattle.tree.proofs.ChildCodes.{among_length, codes_lead, step_among, children_inside, based_near}
use Rattle.tree.proofs.LargestUsed.{largest_pos}
use Rattle.tree.proofs.Compaction.{step_cases, step_trimmed, step_same, trim_sound, top_sits, target_fit}
use Rattle.tree.proofs.StepsTaken.{steps_ended, steps_onward}
use Rattle.placing.specs.Search.{Codes}
use Rattle.cells.specs.Edits.{Shown, celled}
use Rattle.cells.proofs.Shown.{shown_small, shown_base, shown_parent}
use Rattle.std.proofs.lemmas.List.{take_rest}
use Rattle.moving.specs.Children.{Collects, Relocates}
use Rattle.compaction.specs.Lowering.{Steps, LowersChildren, Moved, lowering}

-- ---- one step

module _ (t : Table) where
  -- At the size that it found: what a step leaves that moves, and one that does not.
  lowering_cases : (F : Moves → Type 0) →
      (Lowers document01 t → F (record { table = celled t (relocate t.cells (owner document01 t) (target document01 t)); count = 1 })) →
      ((Lowers document01 t → ⊥) → F (record { table = t; count = 0 })) → F (lowering t)
  unfolding trimmed
  lowering_cases F = step_cases document01 t (λ m. F (record { table = celled t m.table.cells; count = m.count }))

module _ (t : Table) {base check : List ℤ} where
  moves : Lowers document01 t → Shown base check (celled t (relocate t.cells (owner document01 t) (target document01 t))) →
      Moved (lowering t) 1 base check
  moves l s = lowering_cases t (λ m. Moved m 1 base check) (λ _. record { count_is = refl; left = s }) (λ d. absurd (d l))

  stays : (Lowers document01 t → ⊥) → Shown base check t → Moved (lowering t) 0 base check
  stays d s = lowering_cases t (λ m. Moved m 0 base check) (λ l. absurd (d l)) (λ _. record { count_is = refl; left = s })

  -- The size is then trimmed.
  pub lowered_trimmed : {r : ℕ} {base' check' : List ℤ} → Moved (lowering t) r base check →
      Shown base' check' (trimmed (lowering t).table.cells t.size) → Moved (compaction_step document01 t) r base' check'
  lowered_trimmed m s = record { count_is = m.count_is; left = rw (step_trimmed document01 t) at s }

-- ---- the largest used cell, u

module _ {base check : List ℤ} {t : Table} (a : Steps base check t) {u : ℕ} (is : u ≡ largest_used t.cells t.size) where
  pub root_stays : u ≡ 1 → Moved (lowering t) 0 base check
  root_stays e = stays t (λ l. omega (arith, l.below)) a.shown

  -- It is not the root; s is its parent.
  module _ (d : u ≢ 1) {s : ℕ} (reads : s ≡ plus_at check u) where
    below : 1 < top document01 t
    below = omega (arith, largest_pos t.cells t.size)

    owner_is : s ≡ owner document01 t
    owner_is = reads ∙ shown_parent a.shown u d ∙ ap (λ (v : ℕ). (t.cells v).parent) is

    based : 1 ≤ (t.cells s).base
    based = rw owner_is (top_sits a.whole below).step.based

    pub lower_collects : Collects base check s t
    lower_collects = record {
      shown = a.shown;
      some = based_pos a.whole.tree s based;
      inside = based_inside a.whole.tree s based;
      based = based;
    }

    pub lowers : {c : ℕ} {codes : List ℕ} → codes ≡ c ∷ child_codes t.cells s GREATEST → LowersChildren base check s (take (length codes - 1) (drop 1 codes)) t
    lowers {codes = codes} e = record { steps = a; below = below; owner_is = owner_is; codes_are = take_rest codes 1 ∙ ap (drop 1) e }

-- ---- its parent's children

module _ {base check : List ℤ} {s : ℕ} {codes : List ℕ} {t : Table} (a : LowersChildren base check s codes t) where
  abbrev T : Cells
  T = t.cells

  abbrev parent : ℕ
  parent = owner document01 t

  abbrev whole : Sound document01 t
  whole = a.steps.whole

  sits : Sits document01 T (top document01 t)
  sits = top_sits whole a.below

  codes_owned : codes ≡ child_codes T parent GREATEST
  codes_owned = a.codes_are ∙ ap (λ (v : ℕ). child_codes T v GREATEST) a.owner_is

  pub lower_codes : Codes codes
  lower_codes = rw codes_owned (record {
    some = among_length (child_codes T parent GREATEST) sits.code (step_among whole.tree sits.step);
    small = λ c m. (codes_lead T parent GREATEST c m).1;
  })

  -- q is the placed base, b the base held.
  module _ {q : ℕ} (is : q ≡ placed (used T) t.size codes) {b : ℕ} (reads : b ≡ plus_at base s) where
    is_target : q ≡ target document01 t
    is_target = rw codes_owned at is

    is_base : b ≡ (T parent).base
    is_base = reads ∙ rw a.owner_is (shown_base a.steps.shown parent (based_pos whole.tree parent sits.step.based))

    pub children_stay : b ≤ q → Moved (lowering t) 0 base check
    children_stay h = stays t (λ l. omega (arith, l.lower, is_target, is_base)) a.steps.shown

    module _ (h : q < b) where
      pub relocates : Relocates base check s q codes t
      relocates = record {
        shown = a.steps.shown;
        tree = whole.tree;
        fit = rw (a.owner_is, is_target) (target_fit whole a.below);
        small = omega (arith, is_base, based_near whole parent sits.step.based, shown_small a.steps.shown);
        codes_are = a.codes_are;
        inside = λ c m. omega (arith, is_base, children_inside whole.tree parent c (rw codes_owned at m));
      }

      pub children_move : {base' check' : List ℤ} → Shown base' check' (celled t (relocate T s q)) → Moved (lowering t) 1 base' check'
      children_move sh = moves t (record { below = a.below; lower = omega (arith, is_target, is_base) }) (rw (a.owner_is, is_target) at sh)

-- ---- steps that follow each other

module _ {base check : List ℤ} {t : Table} (a : Steps base check t) {base' check' : List ℤ} where
  pub steps_trimmed : Shown base' check' (trimmed t.cells t.size) → Steps base' check' (trimmed t.cells t.size)
  steps_trimmed s = record { shown = s; whole = trim_sound a.whole }

  steps_stepped : Shown base' check' (compaction_step document01 t).table → Steps base' check' (compaction_step document01 t).table
  steps_stepped s = record { shown = s; whole = (step_same a.whole).sound }

-- The moves with k before them.
abbrev further : ℕ → Moves → Moves
further k m = record { table = m.table; count = k + m.count }

-- So many of n moves are made from t, and the arrays show a table from which those that are left come to the same.
pub record Going (n made : ℕ) (base check : List ℤ) (t : Table) : Type 0 where
  pub here : Table
  pub asked : Steps base check here
  comes : compaction_steps document01 n t ≡ further made (compaction_steps document01 (n - made) here)

pub going_begun : (n : ℕ) {base check : List ℤ} {t : Table} → Steps base check t → Going n 0 base check t
going_begun n {t = t} a = record { here = t; asked = a; comes = simp (zero-add, sub-zero) }

module _ {n made : ℕ} {base check : List ℤ} {t : Table} (g : Going n made base check t) where
  -- All are made.
  pub going_ended : n ≡ made → {r : ℕ} → r ≡ made → Moved (compaction_steps document01 n t) r base check
  unfolding compaction_steps
  going_ended h e = let z : n - made ≡ 0 = omega arith in rw (g.comes, z) (record { count_is = omega arith; left = g.asked.shown })

  module _ (l : made < n) where
    left_is : n - made ≡ suc (n - (made + 1))
    left_is = omega arith

    -- The next step moves nothing.
    pub going_stopped : {base' check' : List ℤ} → Moved (compaction_step document01 g.here) 0 base' check' →
        Moved (compaction_steps document01 n t) made base' check'
    going_stopped m = rw (g.comes, left_is, steps_ended document01 (n - (made + 1)) g.here (sym m.count_is))
        (record { count_is = omega (arith, m.count_is); left = m.left })

    -- It moves.
    pub going_on : {base' check' : List ℤ} → Moved (compaction_step document01 g.here) 1 base' check' → Going n (made + 1) base' check' t
    going_on m =
        let next = (compaction_step document01 g.here).table in
        let rest = compaction_steps document01 (n - (made + 1)) next in
        let k : made + suc rest.count ≡ made + 1 + rest.count = omega arith in
        record {
          here = next;
          asked = steps_stepped g.asked m.left;
          comes = g.comes ∙ rw (left_is, steps_onward document01 (n - (made + 1)) g.here (λ e. omega (arith, e, m.count_is)), k);
        }

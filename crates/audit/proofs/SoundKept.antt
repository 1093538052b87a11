-- What a sound table keeps, in the audit's terms: all that the audit asks. Assumes nothing.
use mathlib.Core.Path.{◌≡◌, refl, sym, ap, ◌∙◌}
use mathlib.Core.Logic.{◌≢◌, ⊎_elim}
use mathlib.Core.Bool.{true}
use mathlib.Core.List.{List, [], ◌∷◌}
use Prim.Native.Nat.{ℕ, ◌+◌, ◌≤◌}
use native.Mathlib.Omega.{arith}
use lib.ListN.{get_or}
use lib.IntN.{ℤ}
use Rattle.numbers.specs.Stored.{positive, plus_of, minus_of, plus_at, minus_at}
use Rattle.rules.specs.WhatTheIndexDoes.{END, Profile, is_row}
use Rattle.rules.specs.Table.{Cells, used, next, node}
use Rattle.rules.specs.ASoundTable.{size_at, has_child, next_free_at, rule1, rule2, rule3, rule4, sound}
use Rattle.rules.specs.Rendering.{chained, read_cells, read_table}
use Rattle.rules.proofs.Choices.{both}
use Rattle.tree.specs.Soundness.{Sits, Tree}
use Rattle.tree.specs.Renders.{Renders}
use Rattle.tree.proofs.Steps.{step_next}
use Rattle.tree.proofs.UsedCells.{parent_used, parentless_unused}
use Rattle.tree.proofs.Trees.{held_leaf, held_end, held_onward, based_used}
use Rattle.tree.proofs.Elements.{read_parent}
use Rattle.tree.proofs.ReadTests.{free_element, Ruled, used_parent, used_base, used_row, parent_base, same_used, next_has_child}
use Rattle.tree.proofs.FreeCells.{third_rule}
use Rattle.tree.proofs.ToRules.{render_ruled}
use Rattle.tree.proofs.SevenRules.{root_mark, rules_render, climbs_home}
use Rattle.audit.specs.Kept.{Nought, FirstKept, FreeKept, UsedKept, CellsKept}
use Rattle.audit.specs.Ways.{WayKept, WaysUpTo}
use Rattle.audit.proofs.NextFree.{next_free_on}

element_nought : {xs : List ℤ} {i : ℕ} → get_or xs i (positive 0) ≡ positive 0 → Nought xs i
element_nought e = record { above = ap plus_of e; below = ap minus_of e }

module _ (P : Profile) (base check : List ℤ) (e : sound P base check ≡ true) where
  abbrev T : Cells
  T = read_cells base check

  renders : Renders chained P base check (read_table base check)
  renders = rules_render P base check e

  tree : Tree P T (size_at base)
  unfolding read_table
  tree = renders.table.tree

  ruled : Ruled chained P base check
  ruled = render_ruled renders

  third : rule3 base check ≡ true
  unfolding sound
  third = (both (rule3 base check) _ (both (rule2 base check) _ (both (rule1 base check) _ e).1).1).0

  pub sound_first : FirstKept base check (size_at base)
  sound_first = record {
    lengths = renders.lengths;
    sized = record { is = refl; some = tree.some; fits = omega (arith, tree.some, ruled.bounded.fits) };
    past = λ t h l. let (b, c) = ruled.bounded.past t h in (element_nought b, element_nought c);
  }

  pub sound_root : rule4 P base check ≡ true
  sound_root = ruled.fourth

  -- ---- a cell that is not used

  free_kept : (t : ℕ) → 2 ≤ t → t ≤ size_at base → plus_at check t ≡ 0 → FreeKept base check t (next_free_at base check t)
  free_kept t far high z =
      let d : t ≢ 1 = (λ v. omega arith) in
      let p = read_parent base check t far ∙ z in
      record {
        link = third_rule ruled.bounded third t high (parentless_unused T t d p);
        bare = element_nought (free_element base check t (omega arith) (tree.blank t d p));
      }

  -- The root is not free, so the first link passes over it.
  first_link : minus_at check 0 ≡ next_free_at base check 1
  unfolding used read_cells
  first_link = third_rule ruled.bounded third 0 (omega arith) refl ∙ next_free_on base check 0 tree.some (root_mark P base check sound_root)

  -- ---- a used cell but the root

  module _ (t : ℕ) (far : 2 ≤ t) (u : 1 ≤ plus_at check t) where
    parent : 1 ≤ (T t).parent
    parent = rw (read_parent base check t far) u

    sits : Sits P T t
    sits = tree.sits t parent

    lies : t ≡ plus_at base (plus_at check t) + sits.code
    lies = sits.step.at ∙ ap (λ (q : ℕ). q + sits.code) (parent_base ruled.bounded t parent)

    based : 1 ≤ plus_at base (plus_at check t)
    based = rw (← parent_base ruled.bounded t parent) sits.step.based

    within_size : plus_at check t ≤ size_at base
    within_size = rw (← used_parent ruled.bounded t parent)
        (⊎_elim (λ v. rw v tree.some) (tree.inside (T t).parent) (based_used tree (T t).parent sits.step.based))

    -- A leaf is no child of the root.
    leaf_deep : 1 ≤ (T t).row → plus_at check t ≢ 1
    unfolding read_table node
    leaf_deep h v =
        let w = ap (λ (s : ℕ). next T s sits.code) (sym v ∙ sym (used_parent ruled.bounded t parent)) ∙ step_next T sits.step in
        omega (arith, (renders.table.deep (sits.code ∷ []) (omega (arith, ap (λ (s : ℕ). (T s).row) w))).0)

    leaf : t ≡ plus_at base (plus_at check t) + END → (plus_at check t ≢ 1) × (is_row (minus_at base t) ≡ true)
    leaf v =
        let h = held_end sits.held (omega (arith, lies)) in
        (leaf_deep h, rw (← used_row ruled.bounded t parent) (held_leaf sits.held h).2)

    inner : t ≢ plus_at base (plus_at check t) + END → 1 ≤ plus_at base t
    inner d = rw (← used_base ruled.bounded t parent) (held_onward sits.held (omega (arith, lies, sits.low)))

    used_kept : UsedKept P base t (plus_at check t)
    used_kept = record {
      inside = within_size;
      based = based;
      low = omega (arith, lies, sits.low);
      high = omega (arith, lies, sits.high);
      leaf = leaf;
      inner = inner;
    }

    fruit : 1 ≤ plus_at base t → has_child base check t ≡ true
    unfolding read_table
    fruit h =
        let (c, n) = renders.table.fruit t (λ v. omega arith) parent (rw (used_base ruled.bounded t parent) h) in
        next_has_child base check tree t c n

    way_kept : WayKept P base check t
    way_kept = record {
      fruit = fruit;
      climbs = climbs_home P base check e t (same_used ruled.bounded t ∙ parent_used T t parent);
    }

  pub sound_cells : CellsKept P base check
  sound_cells = record {
    cells = λ t far high. record { free = free_kept t far high; used = used_kept t far };
    first = first_link;
  }

  pub sound_ways : WaysUpTo P base check (size_at base)
  sound_ways t far high = way_kept t far

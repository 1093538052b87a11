-- The tests that the seven rules are made of, as facts of the cells read from the two arrays. Assumes nothing.
use mathlib.Core.Path.{◌≡◌, refl, sym, ap, ◌∙◌}
use mathlib.Core.Logic.{⊎_elim}
use mathlib.Core.Bool.{Bool, true, false, ◌&&◌, ◌||◌, and-false, or-true}
use mathlib.Core.List.{List}
use Prim.Native.Nat.{ℕ, zero, suc, ◌≤◌, ◌<◌}
use native.Mathlib.Omega.{arith}
use lib.ListN.{length, get_or, get_or-eq_default}
use lib.IntN.{ℤ}
use lib.Dec.{leb, eqb}
use borrow.Author.Tests.{eq-eqb, ne_eqb, eqb-true, le-leb, lt-leb, leb-true, leb-false}
use Rattle.numbers.specs.Stored.{positive, negative, plus_of, minus_of, plus_at, minus_at}
use Rattle.numbers.proofs.Laws.{plus_negative, sides}
use Rattle.numbers.proofs.Cases.{lt_or_ge}
use Rattle.rules.specs.Ranges.{within, each_to}
use Rattle.rules.specs.WhatTheIndexDoes.{Profile, right_lengths, last_cell}
use Rattle.rules.specs.Table.{Content, Cells, free, used, next}
use Rattle.rules.specs.ASoundTable.{holds, size_at, used_at, has_child, others, rule1, rule4, rule5, rule6, rule7}
use Rattle.rules.specs.Rendering.{Kind, read_cells, read_table}
use Rattle.rules.proofs.Choices.{branch, both, join, otherwise}
use Rattle.rules.proofs.Lengths.{lengths_same}
use Rattle.rules.proofs.Ranges.{within_is, below, each_to_lem, inside, some_to_lem, to_each, to_some}
use Rattle.tree.specs.Soundness.{Sits, Tree}
use Rattle.tree.proofs.Steps.{step_next, next_step}
use Rattle.tree.proofs.UsedCells.{parent_used, other_parent, unused_parent, unused_other, by_use}
use Rattle.tree.proofs.Trees.{step_used, step_far}
use Rattle.tree.proofs.Elements.{same_content, read_base, read_row, read_parent}

-- ---- elements

module _ (xs : List ℤ) (i n : ℕ) where
  pub holds_is : holds xs i n ≡ true → get_or xs i (positive 0) ≡ positive n
  unfolding holds
  holds_is e = let (p, m) = both (eqb (plus_at xs i) n) _ e in sides _ (positive n) (eqb-true _ _ p) (eqb-true _ _ m)

  pub is_holds : get_or xs i (positive 0) ≡ positive n → holds xs i n ≡ true
  unfolding holds
  is_holds e = join (eq-eqb _ _ (ap plus_of e)) (eq-eqb _ _ (ap minus_of e))

module _ (base check : List ℤ) (i : ℕ) (h : 1 ≤ i) where
  abbrev x : Content
  x = read_cells base check i

  pub element_free : x.parent ≡ 0 → get_or base i (positive 0) ≡ positive 0 → x ≡ free
  element_free z e = same_content z (read_base base check i h ∙ ap plus_of e) (read_row base check i h ∙ ap minus_of e)

  pub free_element : x ≡ free → get_or base i (positive 0) ≡ positive 0
  free_element e = sides _ (positive 0)
      (sym (read_base base check i h) ∙ ap (λ x. x.base) e) (sym (read_row base check i h) ∙ ap (λ x. x.row) e)

-- ---- rule 1

module _ (base check : List ℤ) where
  abbrev Nought : ℕ → Type 0
  Nought i = (get_or base i (positive 0) ≡ positive 0) × (get_or check i (positive 0) ≡ positive 0)

  -- What rule 1 says.
  pub record Bounded : Type 0 where
    pub lengths : right_lengths base check ≡ true
    pub some : 1 ≤ size_at base
    pub fits : size_at base ≤ last_cell base
    pub past : (i : ℕ) → size_at base < i → Nought i

  abbrev blank : ℕ → Bool
  blank i = leb i (size_at base) || (holds base i 0 && holds check i 0)

  nought_blank : (i : ℕ) → (size_at base < i → Nought i) → blank i ≡ true
  nought_blank i past = otherwise (leb i (size_at base)) _ (λ f.
      let (x, y) = past (leb-false i (size_at base) f) in join (is_holds base i 0 x) (is_holds check i 0 y))

  blank_nought : each_to (last_cell base) blank ≡ true → (i : ℕ) → size_at base < i → i < length base → Nought i
  blank_nought p i h l =
      let e = rw (lt-leb i (size_at base) h) at (each_to_lem blank (last_cell base) p i (omega arith) (omega arith)) in
      let (b, c) = both (holds base i 0) (holds check i 0) e in
      (holds_is base i 0 b, holds_is check i 0 c)

  pub off_end : right_lengths base check ≡ true → (i : ℕ) → length base ≤ i → Nought i
  off_end l i h =
      (get_or-eq_default base (positive 0) h, get_or-eq_default check (positive 0) (rw (← lengths_same base check l) h))

  pub first_rule : rule1 base check ≡ true → Bounded
  unfolding rule1
  first_rule e =
      let (l, m) = both (right_lengths base check) _ e in
      let (s, p) = both (within 1 (last_cell base) (size_at base)) _ m in
      let (low, high) = within_is 1 (last_cell base) (size_at base) s in
      record { lengths = l; some = low; fits = high; past = λ i h. ⊎_elim (blank_nought p i h) (off_end l i) (lt_or_ge i (length base)) }

  pub rule_first : Bounded → rule1 base check ≡ true
  unfolding rule1
  rule_first b = join b.lengths (join (inside 1 (last_cell base) (size_at base) b.some b.fits)
      (to_each blank (last_cell base) (λ i low high. nought_blank i (b.past i))))

module _ {base check : List ℤ} (b : Bounded base check) where
  abbrev T : Cells
  T = read_cells base check

  -- ---- a used cell but the root

  pub parent_far : (i : ℕ) → 1 ≤ (T i).parent → 2 ≤ i
  unfolding read_cells
  parent_far zero u = absurd (omega arith)
  parent_far (suc zero) u = absurd (omega arith)
  parent_far (suc (suc i)) u = omega arith

  module _ (i : ℕ) (u : 1 ≤ (T i).parent) where
    pub used_parent : (T i).parent ≡ plus_at check i
    used_parent = read_parent base check i (parent_far i u)

    pub used_base : (T i).base ≡ plus_at base i
    used_base = read_base base check i (omega (arith, parent_far i u))

    pub used_row : (T i).row ≡ minus_at base i
    used_row = read_row base check i (omega (arith, parent_far i u))

    pub used_inside : i ≤ size_at base
    used_inside = ⊎_elim (λ h. absurd (omega (arith, used_parent, ap plus_of (b.past i h).1))) (λ h. h) (lt_or_ge (size_at base) i)

    pub parent_base : (T (T i).parent).base ≡ plus_at base (plus_at check i)
    parent_base = read_base base check (T i).parent u ∙ ap (plus_at base) used_parent

    used_at_lem : used_at base check i ≡ true
    unfolding used_at
    used_at_lem = rw (inside 1 (size_at base) i (omega (arith, parent_far i u)) used_inside, ← used_parent, le-leb 1 (T i).parent u, or-true)

  -- ---- used cells

  root_at : used_at base check 1 ≡ true
  unfolding used_at
  root_at = rw (inside 1 (size_at base) 1 (omega arith) b.some)

  unused_at : (i : ℕ) → used T i ≡ false → used_at base check i ≡ false
  unfolding used_at
  unused_at i e = let d = unused_other T i e in let z = unused_parent T i e in ⊎_elim
      (λ h. rw (below 1 (size_at base) i h))
      (λ h. rw (ne_eqb i 1 d, lt-leb 1 (plus_at check i) (omega (arith, read_parent base check i (omega arith))), and-false))
      (lt_or_ge i 1)

  pub same_used : (i : ℕ) → used_at base check i ≡ used T i
  unfolding used
  same_used i = by_use T i (λ e. rw e root_at) (λ d u. used_at_lem i u ∙ sym (parent_used T i u)) (λ e. unused_at i e ∙ sym e)

  far_parent : (i : ℕ) → (leb 2 i && used_at base check i) ≡ true → 1 ≤ (T i).parent
  far_parent i e = let (far, u) = both (leb 2 i) (used_at base check i) e in
      other_parent T i (λ v. omega (arith, leb-true 2 i far)) (sym (same_used i) ∙ u)

  module _ (test : ℕ → Bool) where
    -- A test of every cell up to the size that is not used.
    abbrev unused : Bool
    unused = each_to (size_at base) (λ i. used_at base check i || test i)

    pub to_unused : ((i : ℕ) → 1 ≤ i → i ≤ size_at base → used T i ≡ false → test i ≡ true) → unused ≡ true
    to_unused h = to_each _ (size_at base) (λ i low high.
        otherwise (used_at base check i) (test i) (λ e. h i low high (sym (same_used i) ∙ e)))

    pub unused_to : unused ≡ true → (i : ℕ) → 1 ≤ i → i ≤ size_at base → used T i ≡ false → test i ≡ true
    unused_to e i low high u = rw (same_used i ∙ u) at (each_to_lem _ (size_at base) e i low high)

    -- A test of every used cell but the root.
    pub to_others : ((i : ℕ) → 1 ≤ (T i).parent → test i ≡ true) → others base check test ≡ true
    unfolding others
    to_others h = to_each _ (size_at base) (λ i low high.
        branch (λ x. x ≡ true) (leb 2 i && used_at base check i) (λ e. h i (far_parent i e)) (λ e. refl))

    pub others_to : others base check test ≡ true → (i : ℕ) → 1 ≤ (T i).parent → test i ≡ true
    unfolding others
    others_to e i u = let far = parent_far i u in
        rw (le-leb 2 i far, used_at_lem i u) at (each_to_lem _ (size_at base) e i (omega arith) (used_inside i u))

-- ---- children

module _ (base check : List ℤ) where
  abbrev cells : Cells
  cells = read_cells base check

  pub has_child_next : {P : Profile} → ((i : ℕ) → 1 ≤ (cells i).parent → Sits P cells i) → (s : ℕ) → 1 ≤ s →
      has_child base check s ≡ true → (c : ℕ) × (1 ≤ next cells s c)
  unfolding has_child
  has_child_next sits s h e =
      let (i, low, high, t) = some_to_lem _ (size_at base) e in
      let (x, y) = both (leb 2 i) (eqb (plus_at check i) s) t in
      let v = read_parent base check i (leb-true 2 i x) ∙ eqb-true (plus_at check i) s y in
      let k = sits i (rw v h) in
      (k.code, omega (arith, low, ap (λ (x : ℕ). next cells x k.code) v, step_next cells k.step))

  pub next_has_child : {P : Profile} → Tree P cells (size_at base) → (s c : ℕ) → 1 ≤ next cells s c → has_child base check s ≡ true
  unfolding has_child
  next_has_child w s c h =
      let p = next_step cells h in
      let e = sym (read_parent base check (next cells s c) (step_far w p)) ∙ p.back in
      to_some _ (size_at base) (next cells s c) (omega arith) (w.inside _ (step_used w p)) (join (le-leb 2 _ (step_far w p)) (eq-eqb _ _ e))

-- ---- what the rules come to, for any kind of table

module _ (K : Kind) (base check : List ℤ) where
  -- Rules 2 and 3: a cell that is not used holds nothing, and its check is the kind's link. Element 0 counts as one.
  abbrev pub Vacant : Type 0
  Vacant = (i : ℕ) → i ≤ size_at base → used (read_cells base check) i ≡ false →
      (read_cells base check i ≡ free) × (get_or check i (positive 0) ≡ negative (K.link (read_table base check) i))

  pub header : Vacant → plus_at check 0 ≡ 0
  unfolding used read_cells
  header v = ap plus_of (v 0 (omega arith) refl).1 ∙ plus_negative (K.link (read_table base check) 0)

pub record Ruled (K : Kind) (P : Profile) (base check : List ℤ) : Type 0 where
  pub bounded : Bounded base check
  pub vacant : Vacant K base check
  pub fourth : rule4 P base check ≡ true
  pub fifth : rule5 P base check ≡ true
  pub sixth : rule6 P base check ≡ true
  pub seventh : rule7 P base check ≡ true

-- A table with other contents in one cell: it stays tidy, and where the cell stays used, one store shows it. Assumes nothing.
use mathlib.Core.Path.{◌≡◌, refl, sym, ap, ◌∙◌, subst}
use mathlib.Core.Logic.{◌≢◌, ⊎_elim}
use mathlib.Core.Bool.{true, cond, ◌||◌}
use mathlib.Core.List.{List}
use Prim.Native.Nat.{ℕ, suc, ◌≤◌}
use native.Mathlib.Omega.{arith}
use lib.ListN.{set, length-set}
use lib.IntN.{ℤ}
use lib.Dec.{ltb, eqb}
use borrow.Author.Tests.{lt-ltb, ne_eqb, eqb-true, eqb-false}
use Rattle.numbers.specs.Stored.{positive}
use Rattle.numbers.proofs.Cases.{same?}
use Rattle.rules.specs.WhatTheIndexDoes.{document01}
use Rattle.rules.specs.Table.{Content, Table, free, update, used}
use Rattle.rules.specs.Rendering.{chained, next_free, base_holds, base_of, check_of}
use Rattle.rules.proofs.Choices.{branch}
use Rattle.rules.proofs.Ranges.{first_same}
use Rattle.tree.specs.Renders.{Tidy}
use Rattle.tree.proofs.UsedCells.{other_parent}
use Rattle.tree.proofs.Elements.{check_used}
use Rattle.tree.proofs.OneCell.{update_at, update_off}
use Rattle.cells.specs.Edits.{Shown, holding}
use Rattle.cells.proofs.Shown.{shown_lengths, shown_long, base_element, check_element}
use Rattle.cells.proofs.Stores.{stored, show_again}

-- ---- the links

-- Where the same cells are used, the links are the same.
module _ (t t' : Table) (size : t'.size ≡ t.size) (same : (v : ℕ) → used t'.cells v ≡ used t.cells v) (i : ℕ) where
  next_same : next_free t' i ≡ next_free t i
  unfolding next_free
  next_same = rw size (first_same _ _ t.size (suc i) (λ v h. rw (same v)))

  check_same : (t'.cells i).parent ≡ (t.cells i).parent → check_of chained document01 t' i ≡ check_of chained document01 t i
  unfolding check_of
  check_same e = rw (next_same, same i, e, size)

-- ---- x in cell u

module _ (t : Table) (u : ℕ) (x : Content) where
  -- A fact of x in u, and of every other cell.
  pub held_each : (F : ℕ → Content → Type 0) → F u x → ((v : ℕ) → v ≢ u → F v (t.cells v)) → (v : ℕ) → F v (update t.cells u x v)
  unfolding update
  held_each F a f v = branch (F v) (eqb v u) (λ e. subst (λ y. F y x) (sym (eqb-true v u e)) a) (λ e. f v (eqb-false v u e))

  pub base_held : 1 ≤ u → base_of (holding t u x) u ≡ base_holds x
  unfolding base_of
  base_held h = rw (ne_eqb u 0 (λ e. omega arith), update_at t.cells u x)

  pub base_other : (i : ℕ) → i ≢ u → base_of (holding t u x) i ≡ base_of t i
  unfolding base_of
  base_other i d = rw (update_off t.cells u x i d)

  -- Where x has the base and the row of before.
  pub base_kept : base_holds x ≡ base_holds (t.cells u) → (i : ℕ) → base_of (holding t u x) i ≡ base_of t i
  unfolding base_of
  base_kept e = held_each (λ v y. cond (eqb v 0) (positive t.size) (base_holds y) ≡ base_of t v) (rw e refl) (λ v d. refl)

  pub check_held : 2 ≤ u → 1 ≤ x.parent → check_of chained document01 (holding t u x) u ≡ positive x.parent
  check_held far h =
      let e = ap (λ y. y.parent) (update_at t.cells u x) in
      check_used chained document01 (holding t u x) u (λ o. omega arith) (rw e h) ∙ ap positive e

module _ {t : Table} (w : Tidy t) where
  pub used_inside : (u : ℕ) → used t.cells u ≡ true → u ≤ t.size
  used_inside u e = ⊎_elim (λ o. omega (arith, w.some)) (λ d. w.inside u (other_parent t.cells u d e)) (same? u 1)

  pub tidy_holding : (u : ℕ) (x : Content) → 1 ≤ u → u ≤ t.size → (u ≡ 1 → x.parent ≡ 0) → (u ≢ 1 → x.parent ≡ 0 → x ≡ free) →
      (1 ≤ x.row → x.base ≡ 0) → Tidy (holding t u x)
  tidy_holding u x low high root blank kind = record {
    nowhere = update_off t.cells u x 0 (λ e. omega arith) ∙ w.nowhere;
    root_parent = held_each t u x (λ v y. v ≡ 1 → y.parent ≡ 0) root (λ v d e. rw e w.root_parent) 1 refl;
    blank = held_each t u x (λ v y. v ≢ 1 → y.parent ≡ 0 → y ≡ free) blank (λ v d. w.blank v);
    some = w.some;
    inside = held_each t u x (λ v y. 1 ≤ y.parent → v ≤ t.size) (λ h. high) (λ v d. w.inside v);
    one_kind = held_each t u x (λ v y. 1 ≤ y.row → y.base ≡ 0) kind (λ v d. w.one_kind v);
  }

-- ---- one store

module _ {base check : List ℤ} {t : Table} (s : Shown base check t) (u : ℕ) where
  -- Another base or row in a used cell.
  module _ (x : Content) (low : 1 ≤ u) (e : used t.cells u ≡ true) (p : x.parent ≡ (t.cells u).parent) (kind : 1 ≤ x.row → x.base ≡ 0) where
    tidy_based_anew : Tidy (holding t u x)
    tidy_based_anew = tidy_holding s.table u x low (used_inside s.table u e)
        (λ (o : u ≡ 1). rw (p, o) s.table.root_parent)
        (λ d z. absurd (omega (arith, p, other_parent t.cells u d e)))
        kind

    parents_same : (v : ℕ) → (update t.cells u x v).parent ≡ (t.cells v).parent
    parents_same = held_each t u x (λ v y. y.parent ≡ (t.cells v).parent) p (λ v d. refl)

    uses_same : (v : ℕ) → used (update t.cells u x) v ≡ used t.cells v
    unfolding used
    uses_same v = rw (parents_same v)

    pub base_stored : Shown (set base u (base_holds x)) check (holding t u x)
    base_stored = show_again s (holding t u x) (length-set base u (base_holds x)) refl tidy_based_anew s.fits
        (λ i. stored base u i (omega (arith, shown_long s, used_inside s.table u e))
        (λ (o : i ≡ u). rw o (sym (base_held t u x low)))
        (λ d. base_element s i ∙ sym (base_other t u x i d)))
        (λ i. check_element s i ∙ sym (check_same t (holding t u x) refl uses_same i (parents_same i)))

  -- Another parent for a used cell.
  module _ (q : ℕ) (far : 2 ≤ u) (p : 1 ≤ (t.cells u).parent) (h : 1 ≤ q) where
    abbrev Y : Content
    Y = record { parent = q; base = (t.cells u).base; row = (t.cells u).row }

    still_used : (v : ℕ) → used (update t.cells u Y) v ≡ used t.cells v
    unfolding used
    still_used = held_each t u Y (λ v y. (eqb v 1 || ltb 0 y.parent) ≡ used t.cells v)
        (rw (lt-ltb 0 q h, lt-ltb 0 (t.cells u).parent p) refl) (λ v d. refl)

    pub parent_stored : Shown base (set check u (positive q)) (holding t u Y)
    unfolding base_holds
    parent_stored = show_again s (holding t u Y) refl (length-set check u (positive q))
        (tidy_holding s.table u Y (omega arith) (s.table.inside u p) (λ o. absurd (omega arith)) (λ d z. absurd (omega arith)) (s.table.one_kind u))
        s.fits
        (λ i. base_element s i ∙ sym (base_kept t u Y refl i))
        (λ i. stored check u i (omega (arith, shown_long s, shown_lengths s, s.table.inside u p))
        (λ (o : i ≡ u). rw o (sym (check_held t u Y far h)))
        (λ d. check_element s i ∙ sym (check_same t (holding t u Y) refl still_used i (ap (λ y. y.parent) (update_off t.cells u Y i d)))))

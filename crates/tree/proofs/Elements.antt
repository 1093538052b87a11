-- What a rendered array holds, element by element, and what the cells read from two arrays hold: a rendered table is read
-- back as it was. Assumes nothing.
use mathlib.Core.Path.{◌≡◌, refl, sym, ap, ◌∙◌, fun_ext}
use mathlib.Core.Logic.{◌≢◌, ⊎_elim}
use mathlib.Core.Bool.{false}
use mathlib.Core.List.{List}
use Prim.Native.Nat.{ℕ, zero, suc, ◌+◌, ◌≤◌, ◌<◌}
use native.Mathlib.Nat.{add-zero, add-suc, suc-add, zero-add, le_of_suc-le-suc}
use native.Mathlib.Omega.{arith}
use lib.ListN.{length, get_or, get_or-eq_default}
use lib.IntN.{ℤ}
use borrow.Author.Tests.{le-leb, lt-leb, eq-eqb, ne_eqb}
use Rattle.numbers.specs.Stored.{positive, negative, plus_of, minus_of, plus_at, minus_at}
use Rattle.numbers.proofs.Laws.{plus_negative, minus_negative}
use Rattle.numbers.proofs.Cases.{lt_or_ge, same?, some?}
use Rattle.rules.specs.WhatTheIndexDoes.{Profile}
use Rattle.rules.specs.Table.{Content, Table, used}
use Rattle.rules.specs.Rendering.{Kind, base_holds, base_of, check_of, elements, render_base, render_check, read_cells, read_table}
use Rattle.tree.specs.Renders.{Tidy}
use Rattle.tree.proofs.UsedCells.{parent_used, parentless_unused, unused_other}
use Rattle.tree.proofs.TidyTables.{tidy_past, tidy_past_free}

-- ---- what the rendering writes

module _ (x : Content) where
  minus_holds : minus_of (base_holds x) ≡ x.row
  unfolding base_holds
  minus_holds = ⊎_elim
      (λ z. rw (eq-eqb x.row 0 z) (sym z))
      (λ h. rw (ne_eqb x.row 0 (λ e. omega arith)) (minus_negative x.row))
      (some? x.row)

  plus_holds : (1 ≤ x.row → x.base ≡ 0) → plus_of (base_holds x) ≡ x.base
  unfolding base_holds
  plus_holds one = ⊎_elim
      (λ z. rw (eq-eqb x.row 0 z))
      (λ h. rw (ne_eqb x.row 0 (λ e. omega arith)) (plus_negative x.row ∙ sym (one h)))
      (some? x.row)

base_held : (t : Table) (i : ℕ) → 1 ≤ i → base_of t i ≡ base_holds (t.cells i)
unfolding base_of
base_held t i h = rw (ne_eqb i 0 (λ e. omega arith))

module _ (K : Kind) (P : Profile) (t : Table) where
  pub check_root : check_of K P t 1 ≡ positive P.mark
  unfolding check_of
  check_root = refl

  module _ (i : ℕ) where
    pub check_used : i ≢ 1 → 1 ≤ (t.cells i).parent → check_of K P t i ≡ positive (t.cells i).parent
    unfolding check_of
    check_used d h = rw (ne_eqb i 1 d, parent_used t.cells i h)

    pub check_link : used t.cells i ≡ false → i ≤ t.size → check_of K P t i ≡ negative (K.link t i)
    unfolding check_of
    check_link e h = rw (ne_eqb i 1 (unused_other t.cells i e), e, le-leb i t.size h)

    pub check_past : used t.cells i ≡ false → t.size < i → check_of K P t i ≡ positive 0
    unfolding check_of
    check_past e h = rw (ne_eqb i 1 (unused_other t.cells i e), e, lt-leb i t.size h)

    plus_unused : used t.cells i ≡ false → plus_of (check_of K P t i) ≡ 0
    plus_unused e = ⊎_elim
        (λ h. ap plus_of (check_past e h))
        (λ h. ap plus_of (check_link e h) ∙ plus_negative (K.link t i))
        (lt_or_ge t.size i)

    plus_check : i ≢ 1 → plus_of (check_of K P t i) ≡ (t.cells i).parent
    plus_check d = ⊎_elim
        (λ z. plus_unused (parentless_unused t.cells i d z) ∙ sym z)
        (λ h. ap plus_of (check_used d h))
        (some? (t.cells i).parent)

-- ---- elements

module _ (f : ℕ → ℤ) where
  elements_length : (n i : ℕ) → length (elements f n i) ≡ n
  unfolding elements
  elements_length zero i = refl
  elements_length (suc n) i = ap suc (elements_length n (suc i))

  elements_at : (n i j : ℕ) → j < n → get_or (elements f n i) j (positive 0) ≡ f (i + j)
  unfolding elements
  elements_at zero i j h = absurd (omega arith)
  elements_at (suc n) i zero h = ap f (sym (add-zero i))
  elements_at (suc n) i (suc j) h = elements_at n (suc i) j (le_of_suc-le-suc h) ∙ ap f (suc-add i j ∙ sym (add-suc i j))

  elements_inside : (n i : ℕ) → i < n → get_or (elements f n 0) i (positive 0) ≡ f i
  elements_inside n i h = elements_at n 0 i h ∙ ap f (zero-add i)

  elements_past : (n i : ℕ) → n ≤ i → get_or (elements f n 0) i (positive 0) ≡ positive 0
  elements_past n i h = get_or-eq_default (elements f n 0) (positive 0) (rw (elements_length n 0) h)

module _ (t : Table) (n : ℕ) where
  pub base_length : length (render_base n t) ≡ n
  unfolding render_base
  base_length = elements_length (base_of t) n 0

  base_inside : (i : ℕ) → i < n → get_or (render_base n t) i (positive 0) ≡ base_of t i
  unfolding render_base
  base_inside = elements_inside (base_of t) n

  base_beyond : (i : ℕ) → n ≤ i → get_or (render_base n t) i (positive 0) ≡ positive 0
  unfolding render_base
  base_beyond = elements_past (base_of t) n

module _ (K : Kind) (P : Profile) (t : Table) (n : ℕ) where
  pub check_length : length (render_check K P n t) ≡ n
  unfolding render_check
  check_length = elements_length (check_of K P t) n 0

  pub check_inside : (i : ℕ) → i < n → get_or (render_check K P n t) i (positive 0) ≡ check_of K P t i
  unfolding render_check
  check_inside = elements_inside (check_of K P t) n

  check_beyond : (i : ℕ) → n ≤ i → get_or (render_check K P n t) i (positive 0) ≡ positive 0
  unfolding render_check
  check_beyond = elements_past (check_of K P t) n

-- ---- cells read from two arrays

pub same_content : {x y : Content} → x.parent ≡ y.parent → x.base ≡ y.base → x.row ≡ y.row → x ≡ y
same_content p b r = λ i. record { parent = p i; base = b i; row = r i }

module _ (base check : List ℤ) (i : ℕ) where
  pub read_base : 1 ≤ i → (read_cells base check i).base ≡ plus_at base i
  unfolding read_cells
  read_base h = rw (ne_eqb i 0 (λ e. omega arith))

  pub read_row : 1 ≤ i → (read_cells base check i).row ≡ minus_at base i
  unfolding read_cells
  read_row h = rw (ne_eqb i 0 (λ e. omega arith))

  pub read_parent : 2 ≤ i → (read_cells base check i).parent ≡ plus_at check i
  unfolding read_cells
  read_parent h = rw (ne_eqb i 0 (λ e. omega arith), ne_eqb i 1 (λ e. omega arith))

-- ---- a tidy table's rendering, read at any number: past the end both are 0

module _ (t : Table) (w : Tidy t) (n : ℕ) (long : t.size < n) where
  pub base_at : (i : ℕ) → get_or (render_base n t) i (positive 0) ≡ base_of t i
  unfolding base_holds
  base_at i = ⊎_elim
      (base_inside t n i)
      (λ h. base_beyond t n i h ∙ sym (base_held t i (omega arith) ∙ ap base_holds (tidy_past_free w i (omega arith))))
      (lt_or_ge i n)

  pub base_plus : (i : ℕ) → 1 ≤ i → plus_at (render_base n t) i ≡ (t.cells i).base
  base_plus i h = ap plus_of (base_at i ∙ base_held t i h) ∙ plus_holds (t.cells i) (w.one_kind i)

  pub base_minus : (i : ℕ) → 1 ≤ i → minus_at (render_base n t) i ≡ (t.cells i).row
  base_minus i h = ap minus_of (base_at i ∙ base_held t i h) ∙ minus_holds (t.cells i)

module _ (K : Kind) (P : Profile) (t : Table) (w : Tidy t) (n : ℕ) (long : t.size < n) where
  pub check_at : (i : ℕ) → get_or (render_check K P n t) i (positive 0) ≡ check_of K P t i
  check_at i = ⊎_elim
      (check_inside K P t n i)
      (λ h. check_beyond K P t n i h ∙ sym (check_past K P t i (tidy_past w i (omega arith)) (omega arith)))
      (lt_or_ge i n)

  pub check_plus : (i : ℕ) → i ≢ 1 → plus_at (render_check K P n t) i ≡ (t.cells i).parent
  check_plus i d = ap plus_of (check_at i) ∙ plus_check K P t i d

  abbrev base : List ℤ
  base = render_base n t

  abbrev check : List ℤ
  check = render_check K P n t

  same_parent : (i : ℕ) → 1 ≤ i → (read_cells base check i).parent ≡ (t.cells i).parent
  unfolding read_cells
  same_parent i h = ⊎_elim
      (λ e. rw e (sym w.root_parent))
      (λ d. read_parent base check i (omega arith) ∙ check_plus i d)
      (same? i 1)

  same_cell : (i : ℕ) → read_cells base check i ≡ t.cells i
  unfolding read_cells
  same_cell i = ⊎_elim
      (λ z. rw z (sym w.nowhere))
      (λ h. let b = read_base base check i h ∙ base_plus t w n long i h in
      same_content (same_parent i h) b (read_row base check i h ∙ base_minus t w n long i h))
      (some? i)

  pub read_rendered : read_table (render_base n t) (render_check K P n t) ≡ t
  unfolding read_table base_of
  read_rendered = let c = fun_ext same_cell in let s = ap plus_of (base_at t w n long 0) in λ i. record { cells = c i; size = s i }

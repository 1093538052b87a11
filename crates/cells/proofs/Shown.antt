-- What two arrays hold that show a table, element by element; and arrays that hold this show it. Assumes nothing.
use mathlib.Core.Path.{◌≡◌, sym, ap, ◌∙◌}
use mathlib.Core.Logic.{◌≢◌, inl, ⊎_elim}
use mathlib.Core.Bool.{true, false, not}
use mathlib.Core.List.{List}
use Prim.Native.Nat.{ℕ, ◌≤◌, ◌<◌}
use native.Mathlib.Omega.{arith}
use lib.ListN.{length, get_or}
use lib.Seq.{ext_get_or}
use lib.IntN.{ℤ}
use borrow.Author.Tests.{le-leb, lt-leb, not-true}
use Rattle.numbers.specs.Stored.{positive, plus_of, minus_of, plus_at, minus_at}
use Rattle.numbers.proofs.Laws.{minus_negative}
use Rattle.numbers.proofs.Cases.{lt_or_ge}
use Rattle.rules.specs.WhatTheIndexDoes.{document01, right_lengths, last_cell}
use Rattle.rules.specs.Table.{Table, used}
use Rattle.rules.specs.Rendering.{chained, next_free, base_of, check_of, render_base, render_check}
use Rattle.rules.proofs.Lengths.{lengths_same, lengths_within}
use Rattle.tree.specs.Renders.{Tidy}
use Rattle.tree.proofs.UsedCells.{is_used, parent_used, parentless_unused, unused_other, unused_parent, by_use}
use Rattle.tree.proofs.TidyTables.{tidy_past}
use Rattle.tree.proofs.ToRules.{rendered_long}
use Rattle.tree.proofs.Elements.{check_link, base_length, base_at, base_plus, check_length, check_at, check_plus}
use Rattle.placing.specs.Search.{taken_at, Chain}
use Rattle.cells.specs.Edits.{Shown}
use Rattle.cells.proofs.NextFree.{unused, next_free_lem}

module _ {base check : List ℤ} {t : Table} (s : Shown base check t) where
  pub shown_lengths : length check ≡ length base
  shown_lengths = sym (lengths_same base check s.lengths)

  -- ---- the size

  pub shown_long : t.size < length base
  shown_long = rendered_long s

  pub shown_small : t.size < 65536
  shown_small = omega (arith, s.fits, lengths_within base check s.lengths)

  -- ---- the elements, at any number

  pub base_element : (i : ℕ) → get_or base i (positive 0) ≡ base_of t i
  base_element i = ap (λ xs. get_or xs i (positive 0)) s.base_is ∙ base_at t s.table (length base) shown_long i

  pub check_element : (i : ℕ) → get_or check i (positive 0) ≡ check_of chained document01 t i
  check_element i = ap (λ xs. get_or xs i (positive 0)) s.check_is ∙ check_at chained document01 t s.table (length base) shown_long i

  pub shown_size : plus_at base 0 ≡ t.size
  unfolding base_of
  shown_size = ap plus_of (base_element 0)

  pub shown_base : (u : ℕ) → 1 ≤ u → plus_at base u ≡ (t.cells u).base
  shown_base u h = ap (λ xs. plus_at xs u) s.base_is ∙ base_plus t s.table (length base) shown_long u h

  pub shown_parent : (u : ℕ) → u ≢ 1 → plus_at check u ≡ (t.cells u).parent
  shown_parent u d = ap (λ xs. plus_at xs u) s.check_is ∙ check_plus chained document01 t s.table (length base) shown_long u d

  shown_root : plus_at check 1 ≡ 1
  unfolding check_of
  shown_root = ap plus_of (check_element 1)

  pub shown_link : (u : ℕ) → used t.cells u ≡ false → u ≤ t.size → minus_at check u ≡ next_free t u
  shown_link u e h = ap minus_of (check_element u ∙ check_link chained document01 t u e h) ∙ minus_negative (next_free t u)

  -- ---- the chain

  pub shown_taken : (u : ℕ) → taken_at check t.size u ≡ used t.cells u
  unfolding taken_at
  shown_taken u = ⊎_elim
      (λ h. rw (lt-leb u t.size h) (sym (tidy_past s.table u h)))
      (λ h. rw (le-leb u t.size h) (by_use t.cells u
      (λ e. rw (ap (plus_at check) e ∙ shown_root) (sym (is_used t.cells u (inl e))))
      (λ d p. rw (shown_parent u d) (le-leb 1 (t.cells u).parent p ∙ sym (parent_used t.cells u p)))
      (λ f. rw (shown_parent u (unused_other t.cells u f) ∙ unused_parent t.cells u f) (sym f))))
      (lt_or_ge t.size u)

  pub shown_chain : Chain (unused t) t.size check
  shown_chain = record {
    header = ap not (parentless_unused t.cells 0 (λ e. omega arith) (ap (λ x. x.parent) s.table.nowhere));
    link = λ u h e. rw (shown_link u (not-true _ e) h) (next_free_lem t u h);
  }

-- Arrays with these elements show the table.
pub show : {base check : List ℤ} (t : Table) → right_lengths base check ≡ true → Tidy t → t.size ≤ last_cell base →
    ((i : ℕ) → i < length base → get_or base i (positive 0) ≡ base_of t i) →
    ((i : ℕ) → i < length base → get_or check i (positive 0) ≡ check_of chained document01 t i) → Shown base check t
show {base} {check} t lengths tidy fits b c =
    let long : t.size < length base = omega (arith, (lengths_within base check lengths).0) in
    let same = lengths_same base check lengths in
    record {
      lengths = lengths;
      table = tidy;
      fits = fits;
      base_is = ext_get_or (positive 0) base (render_base (length base) t) (sym (base_length t (length base)))
          (λ i h. b i h ∙ sym (base_at t tidy (length base) long i));
      check_is = ext_get_or (positive 0) check (render_check chained document01 (length base) t) (sym same ∙ sym (check_length chained document01 t (length base)))
          (λ i h. c i (omega arith) ∙ sym (check_at chained document01 t tidy (length base) long i));
    }

-- What an array holds after a store; and arrays of the same lengths as two that show a table show another one, if they hold its
-- elements. Assumes nothing.
use mathlib.Core.Path.{◌≡◌, sym, ap, ◌∙◌}
use mathlib.Core.Logic.{◌≢◌, ⊎_elim}
use mathlib.Core.Bool.{true, false}
use mathlib.Core.List.{List}
use Prim.Native.Nat.{ℕ, ◌≤◌, ◌<◌}
use native.Mathlib.Omega.{arith}
use lib.ListN.{length, get_or, set}
use lib.Seq.{get_or-set_same, get_or-set_other}
use lib.IntN.{ℤ}
use Rattle.numbers.specs.Stored.{positive, negative}
use Rattle.numbers.proofs.Cases.{same?}
use Rattle.rules.specs.WhatTheIndexDoes.{document01, right_lengths, last_cell}
use Rattle.rules.specs.Table.{Table, used}
use Rattle.rules.specs.Rendering.{chained, next_free, base_of, check_of}
use Rattle.rules.proofs.Lengths.{lengths_within}
use Rattle.tree.specs.Renders.{Tidy}
use Rattle.tree.proofs.Elements.{check_link}
use Rattle.cells.specs.Edits.{Shown}
use Rattle.cells.proofs.Shown.{shown_lengths, show}

same_lengths : (base check base' check' : List ℤ) → length base' ≡ length base → length check' ≡ length check →
    right_lengths base check ≡ true → right_lengths base' check' ≡ true
unfolding right_lengths
same_lengths base check base' check' b c e = rw (b, c) e

-- Each element i is f i; past the end it is 0.
abbrev pub Holds : List ℤ → (ℕ → ℤ) → Type 0
Holds xs f = (i : ℕ) → get_or xs i (positive 0) ≡ f i

-- What check holds where the arrays show t.
abbrev pub checks : Table → ℕ → ℤ
checks = check_of chained document01

pub check_linked : (t : Table) (i : ℕ) {v : ℕ} → used t.cells i ≡ false → i ≤ t.size → v ≡ next_free t i → negative v ≡ checks t i
check_linked t i f h e = ap negative e ∙ sym (check_link chained document01 t i f h)

-- An element after a store: what was stored, or what was there.
pub stored : (xs : List ℤ) (i : ℕ) {z : ℤ} (j : ℕ) {y : ℤ} → i < length xs → (j ≡ i → z ≡ y) → (j ≢ i → get_or xs j (positive 0) ≡ y) →
    get_or (set xs i z) j (positive 0) ≡ y
stored xs i {z} j h here other = ⊎_elim
    (λ (e : j ≡ i). rw e (get_or-set_same xs i z (positive 0) h) ∙ here e)
    (λ d. get_or-set_other xs i j z (positive 0) d ∙ other d)
    (same? j i)

module _ {base check : List ℤ} {t : Table} (s : Shown base check t) where
  -- A cell has its element, and a number that can be stored.
  pub cell_fits : (n : ℕ) → n ≤ last_cell base → (n < length check) × (n < 65536)
  cell_fits n h = let (low, high) = lengths_within base check s.lengths in (omega (arith, shown_lengths s), omega arith)

  pub show_again : {base' check' : List ℤ} (t' : Table) → length base' ≡ length base → length check' ≡ length check → Tidy t' →
      t'.size ≤ last_cell base → Holds base' (base_of t') → Holds check' (checks t') → Shown base' check' t'
  show_again {base'} {check'} t' lb lc tidy fits b c =
      show t' (same_lengths base check base' check' lb lc s.lengths) tidy (rw lb fits) (λ i h. b i) (λ i h. c i)

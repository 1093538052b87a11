-- The first label that leads somewhere, of the last so many labels of a cell: the labels before it have no lines. Assumes nothing.
use mathlib.Core.Path.{◌≡◌, refl, ◌∙◌}
use mathlib.Core.Logic.{◌≢◌}
use mathlib.Core.Bool.{true, false}
use Rattle.std.specs.Prelude.{is_some}
use Rattle.rules.specs.Options.{some_cell}
use mathlib.Core.List.{List}
use Prim.Native.Nat.{ℕ, zero, suc, ◌-◌, ◌≤◌}
use native.Mathlib.Numerals.{sub-one}
use native.Mathlib.Omega.{arith}
use lib.IntN.{ℤ}
use lib.Dec.{eqb}
use borrow.Author.Tests.{eq-eqb, ne_eqb, eqb-true}
use Rattle.rules.specs.WhatTheIndexDoes.{GREATEST, document01}
use Rattle.rules.specs.ASoundTable.{sound}
use Rattle.rules.specs.Finding.{next_at}
use Rattle.rules.specs.Listing.{listed}
use Rattle.rules.proofs.Choices.{branch}
use Rattle.tree.proofs.Listing.{listed_within}
use Rattle.listing.specs.Visiting.{first_found, lines_tried}
use Rattle.listing.proofs.LinesFound.{tried_skip}

-- ---- whether a label leads somewhere

pub is_led : {n : ℕ} → is_some (some_cell n) ≡ true → n ≢ 0
is_led {n = zero} e z = cc
is_led {n = suc n} e z = omega arith

pub not_led : {n : ℕ} → is_some (some_cell n) ≡ false → n ≡ 0
not_led {n = zero} e = refl
not_led {n = suc n} e = cc

-- ---- one label after another

module _ (base check : List ℤ) (s : ℕ) where
  abbrev leads_to : ℕ → ℕ
  leads_to n = next_at base check s (listed document01 n)

  pub first_none : (n : ℕ) → n ≡ 0 → 0 ≡ first_found base check s n
  unfolding first_found
  first_none n z = rw z

  -- The first of n labels leads to t, or nowhere.
  pub first_skip : (n : ℕ) {t : ℕ} → n ≢ 0 → t ≡ leads_to n → t ≡ 0 → first_found base check s (n - 1) ≡ first_found base check s n
  unfolding first_found
  first_skip zero some is z = absurd (some refl)
  first_skip (suc n) {t} some is z = rw (sub-one, ← is, eq-eqb t 0 z)

  pub first_here : (n : ℕ) {t : ℕ} → n ≢ 0 → t ≡ leads_to n → t ≢ 0 → n ≡ first_found base check s n
  unfolding first_found
  first_here zero some is d = absurd (some refl)
  first_here (suc n) {t} some is d = rw (← is, ne_eqb t 0 d)

  pub first_within : (n : ℕ) → first_found base check s n ≤ n
  unfolding first_found
  first_within zero = omega arith
  first_within (suc n) = branch (λ (f : ℕ). f ≤ suc n) (eqb (leads_to (suc n)) 0) (λ z. omega (arith, first_within n)) (λ d. omega arith)

-- ---- what it is

module _ (base check : List ℤ) (whole : sound document01 base check ≡ true) (s depth : ℕ) (key : List ℕ) where
  -- Of n labels, f are left, and those before them have no lines.
  abbrev Same : ℕ → ℕ → Type 0
  Same n f = lines_tried base check s n depth key ≡ lines_tried base check s f depth key

  pub first_same : (n : ℕ) → n ≤ GREATEST → Same n (first_found base check s n)
  unfolding first_found
  first_same zero h = refl
  first_same (suc n) h = branch (Same (suc n)) (eqb (leads_to base check s (suc n)) 0)
      (λ z. let d : suc n ≢ 0 = omega arith in
      rw sub-one at (tried_skip base check whole s depth key d (listed_within document01 d h refl).0 (eqb-true _ _ z)) ∙ first_same n (omega arith))
      (λ d. refl)

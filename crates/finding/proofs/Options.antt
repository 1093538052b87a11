-- What an option tells of the number that it was made from, of which 0 is none; and an option made by a test. Assumes nothing.
use Rattle.std.proofs.Common.{◌≡◌, refl, sym, ap, ◌∙◌, ℕ, zero, suc, ◌≤◌, Bool, true, false, Option, Some, None, arith}
use Rattle.std.specs.Bool.{then_some}
use Rattle.std.specs.Option.{option_or}
use Rattle.rules.specs.declared.Cell.{Cell}
use Rattle.rules.specs.declared.Row.{Row}
use Rattle.rules.specs.Options.{some_number, some_cell, some_row}
use Rattle.rules.proofs.Options.{is_cell, is_some_row}

-- ---- the number

pub number_none : {n : ℕ} → None ≡ some_number n → n ≡ 0
number_none {n = zero} e = refl
number_none {n = suc n} e = cc

pub number_some : {n m : ℕ} → Some m ≡ some_number n → (m ≡ n) × (1 ≤ m)
number_some {n = zero} e = cc
number_some {n = suc n} {m} e = let is : m ≡ suc n = cc in (is, omega arith)

pub cell_none : {n : ℕ} → None ≡ some_cell n → n ≡ 0
cell_none {n = zero} e = refl
cell_none {n = suc n} e = cc

pub cell_some : {n : ℕ} {t : Cell} → Some t ≡ some_cell n → (t.0 ≡ n) × (1 ≤ t.0)
cell_some {n = zero} e = cc
cell_some {n = suc n} {t} e = let is : t.0 ≡ suc n = cc in (is, omega arith)

pub row_none : {n : ℕ} → None ≡ some_row n → n ≡ 0
row_none {n = zero} e = refl
row_none {n = suc n} e = cc

pub row_some : {n : ℕ} {r : Row} → Some r ≡ some_row n → (r.0 ≡ n) × (1 ≤ r.0)
row_some {n = zero} e = cc
row_some {n = suc n} {r} e = let is : r.0 ≡ suc n = cc in (is, omega arith)

-- ---- by a test

pub then_cell : (b : Bool) {n m : ℕ} → (b ≡ true → (1 ≤ n) × (n ≡ m)) → (b ≡ false → 0 ≡ m) → then_some b (record { 0 = n }) ≡ some_cell m
then_cell true h k = sym (is_cell _ (h refl).0) ∙ ap some_cell (h refl).1
then_cell false h k = ap some_cell (k refl)

pub then_row : (b : Bool) {n m : ℕ} → (b ≡ true → (1 ≤ n) × (n ≡ m)) → (b ≡ false → 0 ≡ m) → then_some b (record { 0 = n }) ≡ some_row m
then_row true h k = sym (is_some_row _ (h refl).0) ∙ ap some_row (h refl).1
then_row false h k = ap some_row (k refl)

-- ---- one option or another: so `step` stays proved where a code is put in the place of none, if that code is none too

pub or_none : (r d : Option ℕ) → option_or r d ≡ None → r ≡ None
or_none None d e = refl
or_none (Some n) d e = cc

pub or_some : (r : Option ℕ) {m : ℕ} → option_or r None ≡ Some m → r ≡ Some m
or_some None e = cc
or_some (Some n) e = e

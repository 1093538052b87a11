-- `row_of` gives the row in the range of rows. Assumes nothing.
use Rattle.std.proofs.Common.{◌≡◌, ℕ, ◌≤◌, true, false, List, sym, ◌∙◌, arith}
use Rattle.std.specs.Prelude.{ℤ}
use mathlib.Core.Bool.{and-false}
use borrow.Author.Tests.{le-leb}
use Rattle.numbers.specs.Stored.{minus_at}
use Rattle.rules.specs.WhatTheIndexDoes.{is_row}
use Rattle.rules.specs.Finding.{row_of}
use Rattle.rules.proofs.Ranges.{within_is}
use Rattle.finding.proofs.Options.{then_row}
use Rattle.finding.proofs.row_of.Goals as goal

row_pos : {n : ℕ} → is_row n ≡ true → 1 ≤ n
unfolding is_row
row_pos {n} r = (within_is 1 1000000 n r).0

-- Minus the element t of base is n.
module _ (base : List ℤ) (t : ℕ) {n : ℕ} (is : n ≡ minus_at base t) where
  in_range : 1 ≤ t → is_row n ≡ true → n ≡ row_of base t
  unfolding row_of
  in_range h r = rw (← is, le-leb 1 t h, r)

  out_of_range : is_row n ≡ false → 0 ≡ row_of base t
  unfolding row_of
  out_of_range r = rw (← is, r, and-false)

pub returns-then-leaf-eq0 : goal.returns-then-leaf-eq0
unfolding row_of
returns-then-leaf-eq0 c = rw c.if-leaf-eq0.true

pub returns : goal.returns
returns c =
    let is = c.at-n.ensures.is in
    c.then_some.ensures ∙ then_row c.is_row.result
    (λ e. (row_pos (sym c.is_row.ensures ∙ e), in_range _ _ is (omega arith) (sym c.is_row.ensures ∙ e)))
    (λ e. out_of_range _ _ is (sym c.is_row.ensures ∙ e))

-- `row` refuses a text of the wrong length; it looks any other up, asks what is left of it for codes, and answers with the row found.
-- Assumes nothing.
use Rattle.std.proofs.Common.{◌≡◌, sym, ap, ◌∙◌, Option, Err}
use Rattle.rules.specs.declared.Row.{Row}
use mathlib.Core.Bool.{true, false}
use mathlib.Core.List.{List}
use Prim.Native.Nat.{ℕ, ◌-◌}
use lib.ListN.{length, take, drop}
use lib.IntN.{ℤ}
use Rattle.rules.specs.declared.Refusal.TheVariants.{Key}
use Rattle.rules.specs.Ranges.{within}
use Rattle.rules.specs.WhatTheIndexDoes.{document01, coded, is_identifier}
use Rattle.rules.proofs.Choices.{was_no, was_yes}
use Rattle.rules.proofs.Texts.{part_left}
use Rattle.finding.specs.Reaching.{LooksUp, found_in, row_or_key}
use Rattle.finding.proofs.RowFound.{found_absent}
use Rattle.finding.proofs.row.Goals as goal

-- A text of the wrong length is KEY.
wrong_length : (base check : List ℤ) (key : List ℕ) → within 1 32 (length key) ≡ false → Err Key ≡ row_or_key base check key
unfolding row_or_key is_identifier
wrong_length base check key e = rw e

-- One of the right length was looked up, and what is left of it was asked for codes.
module _ {base check : List ℤ} {key : List ℕ} {cell met : ℕ} {row : Option Row} (right : within 1 32 (length key) ≡ true)
    (l : LooksUp base check key cell met row) where
  all_coded : coded document01 (take (length key - met) (drop met key)) ≡ coded document01 key
  all_coded = ap (coded document01) (part_left key met) ∙ l.walked.left

  no_key : coded document01 (take (length key - met) (drop met key)) ≡ false → Err Key ≡ row_or_key base check key
  unfolding row_or_key is_identifier
  no_key e = rw (right, sym all_coded ∙ e)

  module _ (e : coded document01 (take (length key - met) (drop met key)) ≡ true) where
    all : coded document01 key ≡ true
    all = sym all_coded ∙ e

    looked_up : found_in row ≡ row_or_key base check key
    unfolding row_or_key is_identifier
    looked_up = rw (right, all, l.row_is all) (found_absent _)

pub returns-then-not-is_right_length : goal.returns-then-not-is_right_length
returns-then-not-is_right_length c = wrong_length _ _ _ (was_no _ c.is_right_length.ensures c.if-not-is_right_length.true)

pub returns-then-not-is_coded : goal.returns-then-not-is_coded
returns-then-not-is_coded c =
    let right = was_yes _ c.is_right_length.ensures c.if-not-is_right_length.false in
    no_key right c.look_up-looked.ensures (was_no _ c.is_coded.ensures c.if-not-is_coded.true)

pub returns : goal.returns
returns c =
    let right = was_yes _ c.is_right_length.ensures c.if-not-is_right_length.false in
    let left = was_yes _ c.is_coded.ensures c.if-not-is_coded.false in
    c.found_or_absent.ensures ∙ looked_up right c.look_up-looked.ensures left

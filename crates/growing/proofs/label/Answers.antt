-- `label` gives the first label. Assumes nothing.
use mathlib.Core.Path.{◌≡◌, refl, sym, ap, ◌∙◌}
use Prim.Native.Nat.{ℕ, zero, suc}
use native.Mathlib.Omega.{arith}
use Rattle.std.specs.Option.{unwrap_or}
use Rattle.rules.specs.Options.{some_number}
use Rattle.rules.specs.WhatTheIndexDoes.{document01}
use Rattle.rules.proofs.Codes.{document01_round_trip}
use Rattle.tree.proofs.Labels.{first_none, first_some}
use Rattle.growing.proofs.label.Goals as goal

or_nought : (n : ℕ) → unwrap_or (some_number n) 0 ≡ n
or_nought zero = refl
or_nought (suc n) = refl

pub returns-in-empty : goal.returns-in-empty
returns-in-empty c = record { is = sym (first_none document01 _ (omega arith)); small = omega arith }

pub returns-in-len1-up : goal.returns-in-len1-up
returns-in-len1-up c =
    let is = c.unwrap_or.ensures ∙ ap (λ o. unwrap_or o 0) c.code.ensures.is ∙ or_nought _ in
    record { is = is ∙ sym (first_some document01 _ (omega arith)); small = rw is (document01_round_trip.range _) }

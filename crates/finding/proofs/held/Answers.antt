-- `held` gives the row after the end mark, and none where the walk stopped before. Assumes nothing.
use Rattle.std.proofs.Common.{◌≡◌, ◌≢◌, refl, ℕ, List, ap, ◌∙◌}
use Rattle.std.specs.Prelude.{ℤ}
use borrow.Author.Tests.{eq-eqb, ne_eqb}
use Rattle.rules.specs.Options.{some_row}
use Rattle.rules.specs.WhatTheIndexDoes.{END}
use Rattle.rules.specs.Finding.{Reached, next_at, leaf_after, row_of}
use Rattle.finding.proofs.Options.{cell_none, cell_some}
use Rattle.finding.proofs.held.Goals as goal

module _ (base check : List ℤ) (n : ℕ) (w : Reached) where
  stopped : w.met ≢ n → 0 ≡ row_of base (leaf_after base check n w)
  unfolding row_of leaf_after
  stopped d = rw (ne_eqb w.met n d)

  module _ (e : w.met ≡ n) (leaf : ℕ) (to : leaf ≡ next_at base check w.cell END) where
    ended : leaf ≡ leaf_after base check n w
    unfolding leaf_after
    ended = rw (eq-eqb w.met n e, ← to)

    nowhere : leaf ≡ 0 → 0 ≡ row_of base (leaf_after base check n w)
    unfolding row_of
    nowhere z = rw (← ended, z)

pub returns-then-reached-characters : goal.returns-then-reached-characters
returns-then-reached-characters c = ap some_row (stopped _ _ _ _ c.if-reached-characters.true)

pub returns-in_err-leaf : goal.returns-in_err-leaf
returns-in_err-leaf c =
    c.from_residual.ensures ∙ ap some_row (nowhere _ _ _ _ c.if-reached-characters.false _ refl (cell_none c.in_err-leaf.ensures))

pub returns : goal.returns
returns c =
    let to = ended _ _ _ _ c.if-reached-characters.false _ (cell_some c.in_ok-leaf.ensures).0 in
    c.row_of.ensures ∙ ap (λ t. some_row (row_of c.args.arrays.base.now t)) to

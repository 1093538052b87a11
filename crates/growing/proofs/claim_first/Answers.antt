-- `claim_first` claims the cell that the base of s and the first label come to. Assumes nothing.
use mathlib.Core.Path.{◌≡◌, ap₂, ◌∙◌}
use mathlib.Core.List.{List}
use Prim.Native.Nat.{ℕ, ◌+◌}
use lib.IntN.{ℤ}
use Rattle.numbers.specs.Stored.{plus_at}
use Rattle.rules.specs.WhatTheIndexDoes.{document01}
use Rattle.rules.specs.Table.{Table}
use Rattle.tree.specs.Labels.{first_label}
use Rattle.growing.specs.Branches.{Leads}
use Rattle.cells.proofs.Shown.{shown_base}
use Rattle.growing.proofs.Growing.{grow_claims}
use Rattle.growing.proofs.claim_first.Goals as goal

led : {base check : List ℤ} {s : ℕ} {rest : List ℕ} {t : Table} → Leads base check s rest t → {b l : ℕ} → b ≡ plus_at base s →
    l ≡ first_label document01 rest → b + l ≡ (t.cells s).base + first_label document01 rest
led g b l = ap₂ (λ x y. x + y) (b ∙ shown_base g.shown _ g.some) l

pub claim-requires : goal.claim-requires
claim-requires c = let (t, g) = c.requires in (t, grow_claims g (led g c.at.ensures.is c.label.ensures.is))

pub returns : goal.returns
returns c = λ t g.
    let is = led g c.at.ensures.is c.label.ensures.is in
    record { cell_is = is; shown = c.claim.ensures t (grow_claims g is) }

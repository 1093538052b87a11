-- What fresh makes of arrays of a permitted length is sound; there the program begins. Assumes nothing.
use mathlib.Core.Path.{◌≡◌, refl}
use mathlib.Core.Bool.{true}
use mathlib.Core.List.{List}
use Prim.Native.Nat.{ℕ, ◌≤◌}
use lib.ListN.{length}
use lib.IntN.{ℤ}
use borrow.Author.Tests.{eq-eqb}
use Rattle.rules.specs.Answers.{Answer}
use Rattle.rules.specs.WhatTheIndexDoes.{document01, right_lengths}
use Rattle.rules.specs.ASoundTable.{sound}
use Rattle.rules.specs.Calls.{fresh_call}
use Rattle.rules.specs.Promised.{Edits}
use Rattle.rules.proofs.Choices.{join}
use Rattle.rules.proofs.Ranges.{inside}
use Rattle.tree.proofs.EmptyTable.{fresh_sound}

pub begins : (base check : List ℤ) (n : ℕ) → n ≡ length base → n ≡ length check → 2 ≤ n → n ≤ 65536 → {r : Answer} {base' check' : List ℤ} →
    Edits (fresh_call document01 base check) r base' check' → sound document01 base' check' ≡ true
unfolding fresh_call right_lengths
begins base check n b c low high e =
    let right : right_lengths base check ≡ true = rw (← b, ← c) (join (eq-eqb n n refl) (inside 2 65536 n low high)) in
    rw (e.base_is, e.check_is, right, ← b) (fresh_sound document01 n low high)

-- `Alphabet::character` is the document's. Assumes nothing.
use mathlib.Core.Path.{refl}
use Prim.Native.Nat.{◌+◌}
use native.Mathlib.Omega.{arith}
use borrow.Author.Tests.{ne_eqb}
use Rattle.rules.specs.WhatTheIndexDoes.{character_of}
use Rattle.rules.specs.Ranges.{within}
use Rattle.rules.proofs.Ranges.{inside, below, above}
use Rattle.rules.proofs.Options.{is_number}
use Rattle.rules.proofs.Alphabet.character.Goals as goal

pub returns-in-38 : goal.returns-in-38
unfolding character_of within
returns-in-38 c = rw c.in-38.is refl

pub returns-in-2-to-27 : goal.returns-in-2-to-27
unfolding character_of
returns-in-2-to-27 c =
    let n = c.args.code in
    simp (inside 2 27 n (omega arith) (omega arith), is_number (n + 95) (omega arith))

pub returns-in-28-to-37 : goal.returns-in-28-to-37
unfolding character_of
returns-in-28-to-37 c =
    let n = c.args.code in
    simp (above 2 27 n (omega arith), inside 28 37 n (omega arith) (omega arith), is_number (n + 20) (omega arith))

pub returns-in_default : goal.returns-in_default
unfolding character_of
returns-in_default c =
    let n = c.args.code in
    simp (below 2 27 n (omega arith), below 28 37 n (omega arith), ne_eqb n 38 (λ e. omega arith))

pub returns-in_default-2 : goal.returns-in_default-2
unfolding character_of
returns-in_default-2 c =
    let n = c.args.code in
    simp (above 2 27 n (omega arith), above 28 37 n (omega arith), ne_eqb n 38 (λ e. let h = c.in_default in omega arith))

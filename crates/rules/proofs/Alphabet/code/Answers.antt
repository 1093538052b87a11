-- `Alphabet::code` is the document's. Assumes nothing.
use mathlib.Core.Path.{refl}
use native.Mathlib.Omega.{arith}
use borrow.Author.Tests.{ne_eqb}
use Rattle.rules.specs.WhatTheIndexDoes.{code_of}
use Rattle.rules.specs.Ranges.{within}
use Rattle.rules.proofs.Ranges.{inside, below, above}
use Rattle.rules.proofs.Codes.{is_code, is_none}
use Rattle.rules.proofs.Alphabet.code.Goals as goal

pub returns-in-45 : goal.returns-in-45
unfolding code_of within
returns-in-45 c = is_code (omega arith) (rw c.in-45.is refl)

pub returns-in-48-to-57 : goal.returns-in-48-to-57
unfolding code_of
returns-in-48-to-57 c =
    let b = c.args.ch in
    is_code (omega arith) (simp (below 97 122 b (omega arith), inside 48 57 b (omega arith) (omega arith)))

pub returns-in-97-to-122 : goal.returns-in-97-to-122
unfolding code_of
returns-in-97-to-122 c =
    let b = c.args.ch in
    is_code (omega arith) (simp (inside 97 122 b (omega arith) (omega arith)))

pub returns-in_default : goal.returns-in_default
unfolding code_of
returns-in_default c =
    let b = c.args.ch in
    is_none (simp (below 97 122 b (omega arith), below 48 57 b (omega arith), ne_eqb b 45 (λ e. let h = c.in_default in omega arith)))

pub returns-in_default-2 : goal.returns-in_default-2
unfolding code_of
returns-in_default-2 c =
    let b = c.args.ch in
    is_none (simp (below 97 122 b (omega arith), above 48 57 b (omega arith), ne_eqb b 45 (λ e. omega arith)))

pub returns-in_default-3 : goal.returns-in_default-3
unfolding code_of
returns-in_default-3 c =
    let b = c.args.ch in
    is_none (simp (above 97 122 b (omega arith), above 48 57 b (omega arith), ne_eqb b 45 (λ e. omega arith)))

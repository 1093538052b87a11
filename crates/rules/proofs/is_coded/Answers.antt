-- `is_coded` asks each character for its code. Assumes nothing.
use Rattle.std.specs.Prelude.{is_some}
use Rattle.std.specs.List.{list_all}
use Rattle.std.proofs.Common.{rules, tests}
use Rattle.std.proofs.lemmas.Iterator.{YieldsList-from_slice}
use Rattle.std.proofs.lemmas.Iterator.Search.{all_from_yields_List}
use mathlib.Core.Path.{◌≡◌, refl, sym, ap, ◌∙◌}
use mathlib.Core.Bool.{Bool, ◌&&◌}
use mathlib.Core.List.{List, [], ◌∷◌}
use Prim.Native.Nat.{ℕ, zero, suc}
use native.Mathlib.Omega.{arith}
use lib.Dec.{leb}
use borrow.Author.Tests.{le-leb}
use Rattle.rules.specs.Options.{some_number}
use Rattle.rules.specs.WhatTheIndexDoes.{code_of, document01, coded}
use Rattle.rules.proofs.is_coded.Goals as goal

-- Whether a character has a code.
abbrev has_code : ℕ → Bool
has_code b = leb 1 (code_of b)

is_some_number : (n : ℕ) → is_some (some_number n) ≡ leb 1 n
is_some_number zero = refl
is_some_number (suc n) = sym (le-leb 1 (suc n) (omega arith))

each_coded : (key : List ℕ) → list_all has_code key ≡ coded document01 key
unfolding coded
each_coded [] = refl
each_coded (b ∷ bs) = ap (λ t. has_code b && t) (each_coded bs)

pub returns : goal.returns
returns c =
    all_from_yields_List has_code _ _ _ c.all.ensures.ran (YieldsList-from_slice c.args.key.now cc)
    (λ x b q k. search (rules, tests, is_some_number))
    ∙ each_coded c.args.key.now

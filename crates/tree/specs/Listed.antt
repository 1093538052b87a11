-- What a listing's order is: that of the label codes, end mark first.
use Rattle.std.specs.Prelude.{◌≡◌, ◌⊎◌, List, [], ◌∷◌, ℕ, ◌<◌}
use Rattle.rules.specs.WhatTheIndexDoes.{Profile, labels}
use Rattle.rules.specs.Listing.{Entry}
use Rattle.tree.specs.Members.{Among}

-- The labels cs come before the labels ds: the first code in which they differ is smaller.
abbrev pub Before : List ℕ → List ℕ → Type 0
Before cs [] = ⊥
Before [] (d ∷ ds) = ⊥
Before (c ∷ cs) (d ∷ ds) = (c < d) ⊎ ((c ≡ d) × Before cs ds)

-- Each entry's identifier comes before those of all later ones; so none stands twice.
abbrev pub InOrder : Profile → List Entry → Type 0
InOrder P [] = Unit {0}
InOrder P (e ∷ es) = ((f : Entry) → Among f es → Before (labels P e.key) (labels P f.key)) × InOrder P es

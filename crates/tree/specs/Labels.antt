-- What is left of an identifier, label by label: its first label, and those behind it.
use Rattle.std.specs.Prelude.{ℕ, List, [], ◌∷◌}
use Rattle.rules.specs.WhatTheIndexDoes.{END, Profile, labels}

-- The code of the first character; with none left, the end mark.
unfoldable pub first_label : Profile → List ℕ → ℕ
first_label P [] = END
first_label P (b ∷ bs) = P.code b

-- The labels behind it.
unfoldable pub further_labels : Profile → List ℕ → List ℕ
further_labels P [] = []
further_labels P (b ∷ bs) = labels P bs

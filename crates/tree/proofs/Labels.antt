-- What is left of an identifier, taken apart: its first label and those behind it, with none left and with one or more; and the
-- range of the first. Assumes nothing.
use mathlib.Core.Path.{◌≡◌, refl, ap, ◌∙◌}
use mathlib.Core.Bool.{true}
use mathlib.Core.List.{List, [], ◌∷◌}
use Prim.Native.Nat.{ℕ, zero, suc, ◌≤◌, ◌<◌}
use native.Mathlib.Omega.{arith}
use lib.ListN.{length, get_or, drop}
use lib.Dec.{leb}
use borrow.Author.Tests.{leb-true}
use Rattle.rules.specs.WhatTheIndexDoes.{END, Profile, RoundTrip, coded, labels}
use Rattle.rules.proofs.Choices.{both}
use Rattle.rules.proofs.Texts.{behind, first_and_rest, none_left}
use Rattle.tree.specs.Labels.{first_label, further_labels}

module _ (P : Profile) where
  labels_split : (text : List ℕ) → labels P text ≡ first_label P text ∷ further_labels P text
  unfolding labels first_label further_labels
  labels_split [] = refl
  labels_split (b ∷ bs) = refl

  module _ (text : List ℕ) where
    pub first_none : length text ≤ 0 → first_label P text ≡ END
    unfolding first_label
    first_none h = ap (first_label P) (none_left text h)

    pub further_none : length text ≤ 0 → further_labels P text ≡ []
    unfolding further_labels
    further_none h = ap (further_labels P) (none_left text h)

    pub first_some : 0 < length text → first_label P text ≡ P.code (get_or text 0 0)
    unfolding first_label
    first_some h = ap (first_label P) (first_and_rest text h)

    pub further_some : 0 < length text → further_labels P text ≡ first_label P (behind text) ∷ further_labels P (behind text)
    unfolding further_labels
    further_some h = ap (further_labels P) (first_and_rest text h) ∙ labels_split (behind text)

  -- ---- the range of the first label

  pub label_low : (key : List ℕ) (m : ℕ) → coded P key ≡ true → 1 ≤ first_label P (drop m key)
  unfolding first_label coded
  label_low [] zero k = omega arith
  label_low [] (suc m) k = omega arith
  label_low (b ∷ bs) zero k = leb-true 1 (P.code b) (both (leb 1 (P.code b)) (coded P bs) k).0
  label_low (b ∷ bs) (suc m) k = label_low bs m (both (leb 1 (P.code b)) (coded P bs) k).1

  pub label_high : RoundTrip P → 1 ≤ P.greatest → (text : List ℕ) → first_label P text ≤ P.greatest
  unfolding first_label
  label_high trip some [] = some
  label_high trip some (b ∷ bs) = trip.range b

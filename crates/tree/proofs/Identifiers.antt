-- Identifiers and their paths: an identifier's labels tell it from every other, and the paths to leaves are those of the live
-- identifiers. Assumes nothing.
use mathlib.Core.Path.{◌≡◌, refl, sym, ap, ap₂, ◌∙◌}
use mathlib.Core.Bool.{true}
use mathlib.Core.List.{List, [], ◌∷◌, ◌++◌, map, reverse, reverse_aux-append, reverse-append, reverse-reverse}
use mathlib.Core.List.{append_cancel_right, nil≢cons, cons≢nil, head-eq_of_cons-eq, tail-eq_of_cons-eq}
use Prim.Native.Nat.{ℕ, suc, ◌≤◌}
use native.Mathlib.Omega.{arith}
use lib.ListN.{length, length-append, length-map, length-reverse}
use lib.Dec.{leb}
use borrow.Author.Tests.{le-leb, leb-true}
use Rattle.rules.specs.Ranges.{within}
use Rattle.rules.specs.WhatTheIndexDoes.{END, Profile, RoundTrip, coded, is_identifier, labels}
use Rattle.rules.specs.Table.{Cells, Table, next, walk, node, lookup}
use Rattle.rules.proofs.Choices.{both}
use Rattle.rules.proofs.Ranges.{inside, within_is}
use Rattle.tree.specs.Soundness.{row_at, Tree, Sound}
use Rattle.tree.proofs.Steps.{next_step, lookup_row, last_step}
use Rattle.tree.proofs.Trees.{held_leaf, held_code, based_pos, row_pos, step_low, step_high, step_held, walk_pos}

-- ---- labels and identifiers

module _ (P : Profile) (key : List ℕ) where
  pub path_labels : reverse (labels P key) ≡ END ∷ reverse (map P.code key)
  unfolding labels
  path_labels = reverse_aux-append (map P.code key) (END ∷ []) []

  pub codes_length : length (reverse (map P.code key)) ≡ length key
  codes_length = length-reverse (map P.code key) ∙ length-map key P.code

  labels_length : length (labels P key) ≡ suc (length key)
  unfolding labels
  labels_length = rw (length-append, length-map) (omega arith)

  pub path_length : length (reverse (labels P key)) ≡ suc (length key)
  path_length = length-reverse (labels P key) ∙ labels_length

  pub identifier_coded : is_identifier P key ≡ true → coded P key ≡ true
  unfolding is_identifier
  identifier_coded e = (both (within 1 P.limit (length key)) (coded P key) e).1

  pub identifier_short : is_identifier P key ≡ true → (1 ≤ length key) × (length key ≤ P.limit)
  unfolding is_identifier
  identifier_short e = within_is 1 P.limit (length key) (both _ (coded P key) e).0

  is_identifier_lem : coded P key ≡ true → 1 ≤ length key → length key ≤ P.limit → is_identifier P key ≡ true
  unfolding is_identifier
  is_identifier_lem h low high = rw (inside 1 P.limit (length key) low high, h)

module _ {P : Profile} (r : RoundTrip P) where
  code_tells : (a b : ℕ) → 1 ≤ P.code b → P.code a ≡ P.code b → a ≡ b
  code_tells a b k e = sym (r.back a (omega arith)) ∙ ap P.character e ∙ r.back b k

  codes_tell : (j k : List ℕ) → coded P k ≡ true → map P.code j ≡ map P.code k → j ≡ k
  unfolding coded
  codes_tell [] [] g e = refl
  codes_tell [] (b ∷ k) g e = absurd (nil≢cons e)
  codes_tell (a ∷ j) [] g e = absurd (cons≢nil e)
  codes_tell (a ∷ j) (b ∷ k) g e =
      let (g₁, g₂) = both (leb 1 (P.code b)) (coded P k) g in
      ap₂ ◌∷◌ (code_tells a b (leb-true _ _ g₁) (head-eq_of_cons-eq e)) (codes_tell j k g₂ (tail-eq_of_cons-eq e))

  labels_tell : (j k : List ℕ) → coded P k ≡ true → labels P j ≡ labels P k → j ≡ k
  unfolding labels
  labels_tell j k g e = codes_tell j k g (append_cancel_right _ _ (END ∷ []) e)

  pub path_tells : (j k : List ℕ) → coded P k ≡ true → reverse (labels P j) ≡ reverse (labels P k) → j ≡ k
  path_tells j k g e = labels_tell j k g (sym (reverse-reverse (labels P j)) ∙ ap reverse e ∙ reverse-reverse (labels P k))

-- ---- live identifiers

module _ {P : Profile} {T : Cells} {size : ℕ} (w : Tree P T size) where
  walk_coded : (s : ℕ) (key : List ℕ) → 1 ≤ walk T s (labels P key) → coded P key ≡ true
  unfolding walk labels coded
  walk_coded s [] h = refl
  walk_coded s (b ∷ bs) h =
      let t = next T s (P.code b) in
      rw (le-leb 1 (P.code b) (step_low w (next_step T (walk_pos w t (labels P bs) h)))) (walk_coded t bs h)

  live_coded : (key : List ℕ) → 1 ≤ lookup P T key → coded P key ≡ true
  unfolding lookup
  live_coded key h = walk_coded 1 key (row_pos w _ h)

pub live_identifier : {P : Profile} {t : Table} → Sound P t → (key : List ℕ) → 1 ≤ lookup P t.cells key → is_identifier P key ≡ true
live_identifier {P} {t} w key h =
    let (low, high) = w.deep (reverse (labels P key)) (rw (lookup_row t.cells P key) at h) in
    is_identifier_lem P key (live_coded w.tree key h) (omega (arith, path_length P key)) (omega (arith, path_length P key))

-- ---- the identifier of a path

map_append : (f : ℕ → ℕ) (k l : List ℕ) → map f (k ++ l) ≡ map f k ++ map f l
map_append f [] l = refl
map_append f (b ∷ k) l = ap (◌∷◌ (f b)) (map_append f k l)

module _ {P : Profile} (r : RoundTrip P) where
  -- One character more is one label more.
  pub spelt_codes : (c : ℕ) → 2 ≤ c → c ≤ P.greatest → (key : List ℕ) → map P.code (key ++ (P.character c ∷ [])) ≡ map P.code key ++ (c ∷ [])
  spelt_codes c low high key = rw (map_append, r.forth c low high)

  -- The characters that lead to an inner cell.
  inner_key : {T : Cells} {size : ℕ} → Tree P T size → (path : List ℕ) → 1 ≤ (T (node T path)).base →
      (key : List ℕ) × (reverse (map P.code key) ≡ path)
  unfolding node
  inner_key w [] h = ([], refl)
  inner_key {T} w (c ∷ path) h =
      let p = last_step T c path refl (based_pos w (node T (c ∷ path)) h) in
      let (key, e) = inner_key w path p.based in
      let more = spelt_codes c (held_code (step_held w p) h) (step_high w p) key in
      (key ++ (P.character c ∷ []), ap reverse more ∙ reverse-append (map P.code key) (c ∷ []) ∙ ap (◌∷◌ c) e)

  -- A path to a leaf is the path of an identifier.
  pub leaf_key : {t : Table} → Sound P t → (path : List ℕ) → 1 ≤ row_at t.cells path →
      (key : List ℕ) × (reverse (labels P key) ≡ path) × (is_identifier P key ≡ true)
  unfolding node
  leaf_key w [] h = absurd (omega (arith, w.tree.root_row))
  leaf_key {t} w (c ∷ path) h =
      let p = last_step t.cells c path refl (row_pos w.tree _ h) in
      let (key, e) = inner_key w.tree path p.based in
      let same = path_labels P key ∙ ap₂ ◌∷◌ (sym (held_leaf (step_held w.tree p) h).0) e in
      (key, same, live_identifier w key (rw (lookup_row t.cells P key, same) h))

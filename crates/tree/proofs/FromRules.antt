-- Two arrays that keep the rules are the rendering of a sound table, whatever the kind of table. Assumes nothing.
use mathlib.Core.Path.{◌≡◌, refl, sym, ap, ◌∙◌}
use mathlib.Core.Logic.{◌≢◌, ◌⊎◌, inl, inr, ⊎_elim}
use mathlib.Core.Bool.{true, false, not, ◌||◌, true≢false}
use mathlib.Core.List.{List}
use Prim.Native.Nat.{ℕ, suc, ◌+◌, ◌≤◌, ◌<◌}
use native.Mathlib.Omega.{arith}
use lib.ListN.{length, get_or}
use lib.Seq.{ext_get_or}
use lib.IntN.{ℤ}
use lib.Dec.{leb, eqb}
use borrow.Author.Tests.{eq-eqb, ne_eqb, eqb-true, le-leb, leb-true, not-true}
use Rattle.numbers.specs.Stored.{positive, plus_at, minus_at}
use Rattle.numbers.proofs.Laws.{one_side, sides, other_side, plus_is}
use Rattle.numbers.proofs.Cases.{lt_or_ge, same?, some?}
use Rattle.rules.specs.WhatTheIndexDoes.{Profile, is_row}
use Rattle.rules.specs.Table.{Cells, Table, free, used, node}
use Rattle.rules.specs.ASoundTable.{holds, size_at, home, used_at, has_child, code_at, rule4, rule5, rule6, rule7}
use Rattle.rules.specs.Rendering.{Kind, base_of, check_of, render_base, read_cells, read_table}
use Rattle.rules.proofs.Choices.{both, either}
use Rattle.rules.proofs.Lengths.{lengths_same, lengths_within}
use Rattle.rules.proofs.Ranges.{within_is}
use Rattle.tree.specs.Soundness.{Held, a_leaf, an_inner, Fruit, Bare, Sits, Tree, Sound}
use Rattle.tree.specs.Renders.{Renders}
use Rattle.tree.proofs.UsedCells.{parentless_unused, by_use}
use Rattle.tree.proofs.Trees.{row_low, held_inner, held_end, used_pos, row_used, tree_tidy, one_path}
use Rattle.tree.proofs.Elements.{check_root, check_used, check_link, check_past, base_length, check_length}
use Rattle.tree.proofs.Elements.{read_base, read_row, base_at, base_plus, base_minus, check_at}
use Rattle.tree.proofs.Climbs.{PathTo, path_home, home_path}
use Rattle.tree.proofs.ReadTests.{holds_is, element_free, header, Ruled}
use Rattle.tree.proofs.ReadTests.{used_parent, used_base, used_row, used_inside, parent_base, others_to, has_child_next}

module _ {K : Kind} {P : Profile} {base check : List ℤ} (r : Ruled K P base check) where
  abbrev T : Cells
  T = read_cells base check

  abbrev code : ℕ → ℕ
  code = code_at base check

  -- ---- rules 2 to 4

  blank : (i : ℕ) → i ≢ 1 → (T i).parent ≡ 0 → T i ≡ free
  blank i d z = ⊎_elim
      (λ h. element_free base check i (omega arith) z (r.bounded.past i h).0)
      (λ h. (r.vacant i h (parentless_unused T i d z)).0)
      (lt_or_ge (size_at base) i)

  root : (get_or check 1 (positive 0) ≡ positive P.mark) × (1 ≤ plus_at base 1) × ((has_child base check 1 || eqb (plus_at base 1) 1) ≡ true)
  unfolding rule4
  root =
      let (m, more) = both (holds check 1 P.mark) _ r.fourth in
      let (b, c) = both (leb 1 (plus_at base 1)) _ more in
      (holds_is check 1 P.mark m, leb-true 1 (plus_at base 1) b, c)

  module _ (i : ℕ) (u : 1 ≤ (T i).parent) where
    -- ---- rules 5 and 6

    below : (1 ≤ plus_at base (plus_at check i)) × (1 ≤ code i) × (code i ≤ P.greatest)
    unfolding rule5
    below =
        let (live, more) = both (used_at base check (plus_at check i)) _ (others_to r.bounded _ r.fifth i u) in
        let (other, more) = both (not (eqb (plus_at check i) i)) _ more in
        let (based, range) = both (leb 1 (plus_at base (plus_at check i))) _ more in
        let (low, high) = within_is 1 P.greatest (code i) range in
        (leb-true 1 _ based, low, high)

    kind : ((code i ≡ 1) × (is_row (minus_at base i) ≡ true)) ⊎ ((code i ≢ 1) × (1 ≤ plus_at base i) × (has_child base check i ≡ true))
    unfolding rule6
    kind = let e = others_to r.bounded _ r.sixth i u in ⊎_elim
        (λ v. inl (v, rw (eq-eqb (code i) 1 v) at e))
        (λ d. let (b, c) = both (leb 1 (plus_at base i)) _ (rw (ne_eqb (code i) 1 d) at e) in inr (d, leb-true 1 (plus_at base i) b, c))
        (same? (code i) 1)

    held : Held (code i) (T i)
    held = let b = used_base r.bounded i u in let n = used_row r.bounded i u in ⊎_elim
        (λ (v, row). a_leaf v (b ∙ other_side (get_or base i (positive 0)) (row_low row)) (rw n row))
        (λ (d, h, child). an_inner (omega (arith, below.1)) (rw b h) (n ∙ one_side (get_or base i (positive 0)) h))
        kind

    sits : Sits P T i
    unfolding code_at
    sits = let (based, low, high) = below in let b = parent_base r.bounded i u in record {
      code = code i;
      low = low;
      high = high;
      held = held;
      step = record { based = rw b based; at = omega (arith, b); back = refl };
    }

    -- ---- rule 7

    climbs : home check (length check + P.limit) i ≡ true
    unfolding rule7
    climbs = (both (home check (length check + P.limit) i) _ (others_to r.bounded _ r.seventh i u)).0

    leaf_climbs : 1 ≤ (T i).row → (home check (suc P.limit) i ≡ true) × (home check 1 i ≡ false)
    unfolding rule7
    leaf_climbs h =
        let e = (both (home check (length check + P.limit) i) _ (others_to r.bounded _ r.seventh i u)).1 in
        let (x, y) = both (home check (suc P.limit) i) _ (rw (le-leb 1 (minus_at base i) (omega (arith, used_row r.bounded i u))) at e) in
        (x, not-true (home check 1 i) y)

  -- ---- the table

  path_to : (k i : ℕ) → home check k i ≡ true → PathTo base check k i
  path_to = home_path base check (header K base check r.vacant) sits

  tree : Tree P T (size_at base)
  unfolding read_cells
  tree = record {
    nowhere = refl;
    root_parent = refl;
    root_base = root.1;
    root_row = one_side (get_or base 1 (positive 0)) root.1;
    blank = blank;
    sits = sits;
    some = r.bounded.some;
    inside = used_inside r.bounded;
    reach = λ i u. let (path, e, l) = path_to (length check + P.limit) i (climbs i u) in (path, e);
  }

  fruit : Fruit T 0
  fruit i d u h = ⊎_elim
      (λ (v, row). absurd (omega (arith, held_end (held i u) v, held_inner (held i u) h)))
      (λ (d, b, child). has_child_next base check sits i (used_pos tree i u) child)
      (kind i u)

  bare : Bare T
  unfolding read_cells
  bare none = ⊎_elim
      (λ child. let (c, h) = has_child_next base check sits 1 (omega arith) child in absurd (omega (arith, none c)))
      (λ e. eqb-true (plus_at base 1) 1 e)
      (either (has_child base check 1) _ root.2)

  module _ (path : List ℕ) (h : 1 ≤ (T (node T path)).row) where
    live : 1 ≤ (T (node T path)).parent
    live = row_used tree (node T path) h

    deep_low : 2 ≤ length path
    deep_low = ⊎_elim
        (λ l. absurd (true≢false (sym (path_home base check tree path refl (used_pos tree _ live) 1 (omega arith)) ∙ (leaf_climbs _ live h).1)))
        (λ l. l)
        (lt_or_ge (length path) 2)

    deep_high : length path ≤ suc P.limit
    deep_high = let (other, e, l) = path_to (suc P.limit) (node T path) (leaf_climbs _ live h).0 in
        omega (arith, l, ap length (one_path tree path other refl e (used_pos tree _ live)))

  ruled_sound : Sound P (read_table base check)
  unfolding read_table
  ruled_sound = record {
    tree = tree;
    fruit = fruit;
    bare = bare;
    deep = λ path h. (deep_low path h, deep_high path h);
  }

  -- ---- its rendering

  abbrev t : Table
  t = read_table base check

  long : size_at base < length base
  long = omega (arith, r.bounded.fits, (lengths_within base check r.bounded.lengths).0)

  size_element : get_or base 0 (positive 0) ≡ base_of t 0
  unfolding read_table base_of
  size_element = plus_is (get_or base 0 (positive 0)) refl r.bounded.some

  cell_element : (i : ℕ) → 1 ≤ i → get_or base i (positive 0) ≡ get_or (render_base (length base) t) i (positive 0)
  unfolding read_table
  cell_element i h = sides (get_or base i (positive 0)) _
      (sym (base_plus t (tree_tidy ruled_sound.tree) (length base) long i h ∙ read_base base check i h))
      (sym (base_minus t (tree_tidy ruled_sound.tree) (length base) long i h ∙ read_row base check i h))

  base_element : (i : ℕ) → get_or base i (positive 0) ≡ get_or (render_base (length base) t) i (positive 0)
  unfolding read_table
  base_element i = ⊎_elim (λ z. rw z (size_element ∙ sym (base_at t (tree_tidy ruled_sound.tree) (length base) long 0))) (cell_element i) (some? i)

  check_parent : (i : ℕ) → 1 ≤ (T i).parent → get_or check i (positive 0) ≡ positive (T i).parent
  check_parent i u = plus_is (get_or check i (positive 0)) (sym (used_parent r.bounded i u)) u

  check_unused : (i : ℕ) → used T i ≡ false → get_or check i (positive 0) ≡ check_of K P t i
  unfolding read_table
  check_unused i e = ⊎_elim
      (λ h. (r.bounded.past i h).1 ∙ sym (check_past K P t i e h))
      (λ h. (r.vacant i h e).1 ∙ sym (check_link K P t i e h))
      (lt_or_ge (size_at base) i)

  check_element : (i : ℕ) → get_or check i (positive 0) ≡ check_of K P t i
  unfolding read_table
  check_element i = by_use T i
      (λ e. rw e (root.0 ∙ sym (check_root K P t)))
      (λ d u. check_parent i u ∙ sym (check_used K P t i d u))
      (check_unused i)

  pub ruled_render : Renders K P base check t
  unfolding read_table
  ruled_render = record {
    lengths = r.bounded.lengths;
    table = ruled_sound;
    fits = r.bounded.fits;
    base_is = ext_get_or (positive 0) base _ (sym (base_length t (length base))) (λ i h. base_element i);
    check_is = ext_get_or (positive 0) check _ (sym (lengths_same base check r.bounded.lengths) ∙ sym (check_length K P t (length base)))
        (λ i h. check_element i ∙ sym (check_at K P t (tree_tidy ruled_sound.tree) (length base) long i));
  }

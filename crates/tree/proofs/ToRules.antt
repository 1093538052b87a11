-- Two arrays that are the rendering of the table read from them keep the rules, whatever the kind of table. Assumes nothing.
use mathlib.Core.Path.{◌≡◌, refl, sym, ap, ◌∙◌}
use mathlib.Core.Logic.{⊎_elim}
use mathlib.Core.Bool.{true, false, cond, not, ◌&&◌, true≢false}
use mathlib.Core.List.{List}
use Prim.Native.Nat.{ℕ, suc, ◌+◌, ◌≤◌, ◌<◌}
use native.Mathlib.Omega.{arith}
use lib.ListN.{length, get_or}
use lib.IntN.{ℤ}
use lib.Dec.{leb, eqb}
use borrow.Author.Tests.{eq-eqb, ne_eqb, le-leb, leb-true}
use Rattle.numbers.specs.Stored.{positive, plus_at, minus_at}
use Rattle.numbers.proofs.Cases.{same?, some?}
use Rattle.rules.specs.Ranges.{within}
use Rattle.rules.specs.WhatTheIndexDoes.{END, Profile, is_row}
use Rattle.rules.specs.Table.{Cells, Table, next}
use Rattle.rules.specs.ASoundTable.{size_at, home, used_at, has_child, code_at, rule4, rule5, rule6, rule7}
use Rattle.rules.specs.Rendering.{Kind, check_of, read_cells, read_table}
use Rattle.rules.proofs.Choices.{branch, fails, join, otherwise}
use Rattle.rules.proofs.Lengths.{lengths_same, lengths_within}
use Rattle.rules.proofs.Ranges.{inside}
use Rattle.tree.specs.Soundness.{Held, a_leaf, an_inner, Fruit, Tree, Deep}
use Rattle.tree.specs.Renders.{Rendering, Renders}
use Rattle.tree.proofs.UsedCells.{is_used, other_parent, unused_other, unused_parent}
use Rattle.tree.proofs.Trees.{past_unused, used_pos, based_used, no_loop, tree_tidy}
use Rattle.tree.proofs.TidyTables.{tidy_past_free}
use Rattle.tree.proofs.Elements.{check_root, check_link, check_past, check_at}
use Rattle.tree.proofs.Climbs.{all_within, root_home, path_home, home_path}
use Rattle.tree.proofs.ReadTests.{is_holds, free_element, Bounded, Vacant, header, Ruled}
use Rattle.tree.proofs.ReadTests.{used_parent, used_base, used_row, parent_base, same_used, to_others, next_has_child}

pub rendered_long : {F : Table → Type 0} {K : Kind} {P : Profile} {base check : List ℤ} {t : Table} → Rendering F K P base check t →
    t.size < length base
rendered_long {base = base} {check} r = omega (arith, r.fits, (lengths_within base check r.lengths).0)

module _ {K : Kind} {P : Profile} {base check : List ℤ} where
  module _ (r : Renders K P base check (read_table base check)) where
    abbrev T : Cells
    T = read_cells base check

    abbrev t : Table
    t = read_table base check

    tree : Tree P T (size_at base)
    unfolding read_table
    tree = r.table.tree

    fruit : Fruit T 0
    unfolding read_table
    fruit = r.table.fruit

    deep : Deep P T
    unfolding read_table
    deep = r.table.deep

    check_element : (i : ℕ) → get_or check i (positive 0) ≡ check_of K P t i
    check_element i = ap (λ xs. get_or xs i (positive 0)) r.check_is ∙ check_at K P t (tree_tidy r.table.tree) (length base) (rendered_long r) i

    -- ---- rules 1 to 4

    bounded : Bounded base check
    unfolding read_table
    bounded = record {
      lengths = r.lengths;
      some = tree.some;
      fits = r.fits;
      past = λ i h. (free_element base check i (omega arith) (tidy_past_free (tree_tidy tree) i h), check_element i ∙ check_past K P t i (past_unused tree i h) h);
    }

    vacant : Vacant K base check
    unfolding read_table
    vacant i h e = (tree.blank i (unused_other T i e) (unused_parent T i e), check_element i ∙ check_link K P t i e h)

    childless : has_child base check 1 ≡ false → (c : ℕ) → next T 1 c ≡ 0
    childless f c = ⊎_elim (λ z. z) (λ h. absurd (true≢false (sym (next_has_child base check tree 1 c h) ∙ f))) (some? (next T 1 c))

    fourth : rule4 P base check ≡ true
    unfolding rule4 read_table read_cells
    fourth = join (is_holds check 1 P.mark (check_element 1 ∙ check_root K P t)) (join (le-leb 1 (plus_at base 1) tree.root_base)
        (otherwise (has_child base check 1) _ (λ f. eq-eqb _ _ (r.table.bare (childless f)))))

    module _ (i : ℕ) (u : 1 ≤ (T i).parent) where
      -- ---- rule 5

      live_parent : used_at base check (plus_at check i) ≡ true
      live_parent = rw (← used_parent bounded i u, same_used bounded (T i).parent)
          (is_used T (T i).parent (based_used tree (T i).parent (tree.sits i u).step.based))

      parent_apart : not (eqb (plus_at check i) i) ≡ true
      parent_apart = rw (← used_parent bounded i u, ne_eqb (T i).parent i (no_loop tree i (used_pos tree i u)))

      based_parent : leb 1 (plus_at base (plus_at check i)) ≡ true
      based_parent = rw (← parent_base bounded i u) (le-leb 1 _ (tree.sits i u).step.based)

      same_code : code_at base check i ≡ (tree.sits i u).code
      unfolding code_at
      same_code = omega (arith, parent_base bounded i u, (tree.sits i u).step.at)

      code_within : within 1 P.greatest (code_at base check i) ≡ true
      code_within = let k = tree.sits i u in rw same_code (inside 1 P.greatest k.code k.low k.high)

      -- ---- rule 6

      kind : {c : ℕ} → Held c (T i) → cond (eqb c END) (is_row (minus_at base i)) (leb 1 (plus_at base i) && has_child base check i) ≡ true
      kind (a_leaf e z row) = rw (eq-eqb _ 1 e, ← used_row bounded i u) row
      kind {c} (an_inner l h z) = let (a, n) = fruit i (λ e. omega (arith, used_pos tree i u)) u h in
          rw (ne_eqb c 1 (λ e. omega arith), ← used_base bounded i u, le-leb 1 (T i).base h) (next_has_child base check tree i a n)

      -- ---- rule 7

      climbs : (k : ℕ) → suc P.limit ≤ k → home check k i ≡ true
      climbs k h = let (path, e) = tree.reach i u in
          path_home base check tree path e (used_pos tree i u) k (omega (arith, all_within tree fruit deep path (rw e u)))

      not_below_root : 1 ≤ minus_at base i → home check 1 i ≡ false
      not_below_root h = fails (home check 1 i) (λ e.
          let (path, v, l) = home_path base check (header K base check vacant) tree.sits 1 i e in
          omega (arith, l, (deep path (omega (arith, used_row bounded i u, ap (λ (x : ℕ). (T x).row) v))).0))

      leaf_climbs : cond (leb 1 (minus_at base i)) (home check (suc P.limit) i && not (home check 1 i)) true ≡ true
      leaf_climbs = branch (λ x. x ≡ true) (leb 1 (minus_at base i))
          (λ h. join (climbs (suc P.limit) (omega arith)) (ap not (not_below_root (leb-true 1 (minus_at base i) h))))
          (λ h. refl)

    enough : suc P.limit ≤ length check + P.limit
    enough = omega (arith, lengths_same base check r.lengths, (lengths_within base check r.lengths).0)

    pub render_ruled : Ruled K P base check
    unfolding rule5 rule6 rule7
    render_ruled = record {
      bounded = bounded;
      vacant = vacant;
      fourth = fourth;
      fifth = to_others bounded _ (λ i u. join (live_parent i u) (join (parent_apart i u) (join (based_parent i u) (code_within i u))));
      sixth = to_others bounded _ (λ i u. rw (same_code i u) (kind i u (tree.sits i u).held));
      seventh = to_others bounded _ (λ i u. join (climbs i u (length check + P.limit) enough) (leaf_climbs i u));
    }

    pub render_home : (i : ℕ) → used_at base check i ≡ true → home check (suc P.limit) i ≡ true
    render_home i u = ⊎_elim
        (λ e. root_home check (suc P.limit) e)
        (λ d. climbs i (other_parent T i d (sym (same_used bounded i) ∙ u)) (suc P.limit) (omega arith))
        (same? i 1)

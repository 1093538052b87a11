-- Freeing the leaf at the end of a path and each parent left without a child: no row stands at the path, every other path has the
-- row it had. Assumes nothing.
use mathlib.Core.Path.{◌≡◌, refl, sym, ap, ◌∙◌}
use mathlib.Core.Logic.{◌≢◌}
use mathlib.Core.Bool.{true, false}
use mathlib.Core.List.{List, [], ◌∷◌}
use Prim.Native.Nat.{ℕ, ◌≤◌}
use native.Mathlib.Omega.{arith}
use Rattle.rules.specs.WhatTheIndexDoes.{Profile}
use Rattle.rules.specs.Table.{Cells, free, update, node, childless}
use Rattle.rules.specs.Insertion.{relocate}
use Rattle.rules.specs.DeletionAndCompaction.{prune}
use Rattle.rules.proofs.Choices.{branch}
use Rattle.tree.specs.Soundness.{Step, row_at, Fruit, Bare, Tree}
use Rattle.tree.specs.Moved.{Fit}
use Rattle.tree.specs.AfterAnEdit.{Meant}
use Rattle.tree.proofs.Steps.{step_next, last_step}
use Rattle.tree.proofs.Trees.{based_pos, row_pos, based_row, held_leaf, step_held, step_far, one_path, fruit_weak, fruit_whole, bare_path}
use Rattle.tree.proofs.ChildCodes.{childless_baseless, childless_alone, child_next}
use Rattle.tree.proofs.Relocation.{row_moved, s_moved}
use Rattle.tree.proofs.RelocatedTree.{tree_moved, fruit_moved}
use Rattle.tree.proofs.OneCell.{update_at, update_off, OneMore, path_less, row_other, row_gone, row_inner, fruit_less, tree_less}

-- R is a tree with the rows of T, in which every inner cell but the root has a child.
record Alike (P : Profile) (T : Cells) (size : ℕ) (R : Cells) : Type 0 where
  tree : Tree P R size
  rows : (r : List ℕ) → row_at R r ≡ row_at T r
  fruit : Fruit R 0
  bare : Bare R

-- R means T without the row at the path, and a bare root has base 1.
pub record Dropped (P : Profile) (T : Cells) (size : ℕ) (path : List ℕ) (R : Cells) : Type 0 where
  pub meant : Meant P T path 0 (record { cells = R; size = size })
  pub bare : Bare R

-- T is a tree whose inner cell x may be without a child.
record Left (P : Profile) (T : Cells) (size x : ℕ) : Type 0 where
  tree : Tree P T size
  based : 1 ≤ (T x).base
  fruit : Fruit T x

-- ---- by whether the last cell has a child

module _ (P : Profile) (T : Cells) where
  pub prune_stays : (path : List ℕ) → childless T (node T path) P.greatest ≡ false → prune P T path ≡ T
  unfolding prune node
  prune_stays [] e = rw e
  prune_stays (c ∷ path) e = rw e

  pub prune_root : childless T 1 P.greatest ≡ true → prune P T [] ≡ relocate T 1 1
  unfolding prune
  prune_root e = rw e

  pub prune_onward : (c : ℕ) (path : List ℕ) → let t = node T (c ∷ path) in
      childless T t P.greatest ≡ true → prune P T (c ∷ path) ≡ prune P (update T t free) path
  unfolding prune
  prune_onward c path e = rw e

-- ---- one cell less: the last of a path, where it has no children

module _ {P : Profile} {T : Cells} {size : ℕ} (w : Tree P T size) (path : List ℕ) {c t : ℕ} (p : Step T (node T path) c t)
    (none : childless T t P.greatest ≡ true) where
  -- The table without it.
  abbrev Less : Cells
  Less = update T t free

  one_less : OneMore Less T t
  one_less = record {
    far = step_far w p;
    same = λ u d. sym (update_off T t free u d);
    gone = update_at T t free;
    nowhere = update_off T t free 0 (λ e. omega (arith, step_far w p)) ∙ w.nowhere;
    alone = childless_alone w t none (omega (arith, step_far w p));
  }

  pub less_tree : Tree P Less size
  less_tree = tree_less one_less w

  parent_off : node T path ≢ t
  parent_off e = one_less.alone t (p.back ∙ e)

  pub parent_stays : node Less path ≡ node T path
  parent_stays = path_less one_less path refl parent_off

  pub parent_based : 1 ≤ (Less (node T path)).base
  parent_based = rw (update_off T t free (node T path) parent_off) p.based

  parent_left : Fruit T t → Left P Less size (node Less path)
  parent_left f = record { tree = less_tree; based = rw parent_stays parent_based; fruit = rw (parent_stays, ← p.back) (fruit_less one_less f) }

  inner_alike : (T t).row ≡ 0 → {R : Cells} → Alike P Less size R → Alike P T size R
  inner_alike z k = record { tree = k.tree; rows = λ r. k.rows r ∙ sym (row_inner one_less z r); fruit = k.fruit; bare = k.bare }

  leaf_dropped : {R : Cells} → Alike P Less size R → Dropped P T size (c ∷ path) R
  unfolding node
  leaf_dropped k = record {
    meant = record {
      tree = k.tree;
      here = k.rows (c ∷ path) ∙ row_gone one_less (c ∷ path) (step_next T p);
      else = λ r d. k.rows r ∙ sym (row_other one_less r (λ e. d (one_path w r (c ∷ path) e (step_next T p) (omega (arith, step_far w p)))));
      fruit = k.fruit;
    };
    bare = k.bare;
  }

-- ---- each parent left without a child

-- A root without a child can get base 1: no child has to move.
module _ {P : Profile} {T : Cells} {size : ℕ} (w : Tree P T size) (none : childless T 1 P.greatest ≡ true) where
  root_alone : (u : ℕ) → (T u).parent ≢ 1
  root_alone = childless_alone w 1 none (omega arith)

  pub root_fit : Fit T 1 (T 1).base 1
  root_fit = record { held = refl; old = w.root_base; new = omega arith; clear = λ c k. absurd (root_alone _ k) }

module _ {P : Profile} where
  root_alike : {T : Cells} {size : ℕ} → Left P T size 1 → childless T 1 P.greatest ≡ true → Alike P T size (relocate T 1 1)
  unfolding relocate
  root_alike {T} {size} l e =
      let w = l.tree in
      let m = root_fit w e in
      record {
        tree = tree_moved w m size (omega arith) (λ c k. absurd (root_alone w e _ k));
        rows = row_moved w m;
        fruit = fruit_moved w m (λ u d h. l.fruit u (λ v. omega (arith, w.root_parent, ap (λ (x : ℕ). (T x).parent) v)) h);
        bare = λ _. s_moved w m;
      }

  stays_alike : {T : Cells} {size x : ℕ} → Left P T size x → Bare T → childless T x P.greatest ≡ false → Alike P T size T
  stays_alike {T} {x = x} l b e =
      let (c, n) = child_next T x P.greatest e in
      record { tree = l.tree; rows = λ r. refl; fruit = fruit_whole T x c n l.fruit; bare = b }

  prune_alike : (path : List ℕ) {T : Cells} {size : ℕ} → Left P T size (node T path) → Alike P T size (prune P T path)
  unfolding prune node
  prune_alike [] {T} {size} l = branch (λ (R : Cells). Alike P T size R) (childless T 1 P.greatest) (root_alike l)
      (λ e. stays_alike l (let (c, n) = child_next T 1 P.greatest e in bare_path l.tree [] c n) e)
  prune_alike (c ∷ path) {T} {size} l =
      let t = node T (c ∷ path) in
      let w = l.tree in
      let pos = based_pos w t l.based in
      let p = last_step T c path refl pos in
      branch (λ (R : Cells). Alike P T size R) (childless T t P.greatest)
      (λ e. inner_alike w path p e (based_row w t l.based) (prune_alike path (parent_left w path p e l.fruit)))
      (stays_alike l (bare_path w path c pos))

  pub prune_dropped : {T : Cells} {size : ℕ} → Tree P T size → Fruit T 0 → (c : ℕ) (path : List ℕ) → 1 ≤ row_at T (c ∷ path) →
      Dropped P T size (c ∷ path) (prune P T (c ∷ path))
  prune_dropped {T} {size} w f c path h =
      let t = node T (c ∷ path) in
      let p = last_step T c path refl (row_pos w t h) in
      let e = childless_baseless T t P.greatest (held_leaf (step_held w p) h).1 in
      rw (prune_onward P T c path e) (leaf_dropped w path p e (prune_alike path (parent_left w path p e (fruit_weak w t f))))

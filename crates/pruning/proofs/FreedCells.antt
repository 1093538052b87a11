-- A cell that is looked at: whether it has a child; and what is asked and left where it has one, where it is the root, and where it
-- becomes free and its parent is looked at. Assumes nothing.
use mathlib.Core.Path.{◌≡◌, sym, ap, ◌∙◌}
use mathlib.Core.Logic.{◌≢◌, ⊎_elim}
use mathlib.Core.Bool.{Bool, true, false}
use mathlib.Core.List.{List, [], ◌∷◌}
use Prim.Native.Nat.{ℕ, suc, ◌-◌}
use native.Mathlib.Omega.{arith}
use lib.ListN.{length, drop}
use lib.IntN.{ℤ}
use lib.Dec.{eqb}
use borrow.Author.Tests.{eq-eqb, ne_eqb}
use Rattle.numbers.specs.Stored.{plus_at}
use Rattle.numbers.proofs.Cases.{same?}
use Rattle.rules.specs.WhatTheIndexDoes.{GREATEST, document01}
use Rattle.rules.specs.Table.{Cells, Table, free, update, node, child_codes, childless}
use Rattle.rules.specs.Insertion.{relocate}
use Rattle.rules.specs.DeletionAndCompaction.{prune}
use Rattle.rules.proofs.Texts.{none_left}
use Rattle.tree.specs.Soundness.{Step}
use Rattle.tree.proofs.Steps.{last_step}
use Rattle.tree.proofs.Trees.{based_pos, based_inside, step_used, step_far}
use Rattle.tree.proofs.ChildCodes.{childless_codes}
use Rattle.tree.proofs.Pruning.{prune_stays, prune_root, prune_onward, parent_stays, parent_based, less_tree, root_fit}
use Rattle.cells.specs.Edits.{Shown, EveryTable, celled, holding, Releases}
use Rattle.cells.proofs.Shown.{shown_parent}
use Rattle.moving.specs.Children.{Relocates, Collects}
use Rattle.pruning.specs.Parents.{Looks, Prunes}

-- ---- whether it has a child

pub looks_collects : {base check : List ℤ} {s : ℕ} {t : Table} → Looks base check s t → Collects base check s t
looks_collects l = record { shown = l.shown; some = l.some; inside = l.inside; based = l.based }

-- It has none where the code written before those of its children is the only one.
pub collected_childless : (T : Cells) (s : ℕ) {c : ℕ} {codes : List ℕ} → codes ≡ c ∷ child_codes T s GREATEST → eqb (length codes) 1 ≡ childless T s GREATEST
unfolding childless
collected_childless T s {codes = codes} e =
    let children = child_codes T s GREATEST in
    let more : length codes ≡ suc (length children) = ap length e in
    ⊎_elim
    (λ z. eq-eqb (length codes) 1 (omega (arith, more)) ∙ sym (eq-eqb (length children) 0 z))
    (λ d. ne_eqb (length codes) 1 (λ z. d (omega (arith, more))) ∙ sym (ne_eqb (length children) 0 d))
    (same? (length children) 0)

module _ {base check : List ℤ} {u depth : ℕ} {path : List ℕ} {t : Table} (p : Prunes base check u depth path t) where
  pub prune_looks : Looks base check u t
  prune_looks = record {
    shown = p.shown;
    some = based_pos p.tree u p.based;
    inside = based_inside p.tree u p.based;
    based = p.based;
  }

  -- What the test said of it.
  pub prune_looked : {r b : Bool} → EveryTable (Looks base check u) (λ t. r ≡ childless t.cells u GREATEST) → r ≡ b →
      childless t.cells u GREATEST ≡ b
  prune_looked f e = sym (f t prune_looks) ∙ e

  -- ---- it has one

  pub prune_stayed : childless t.cells u GREATEST ≡ false → Shown base check (celled t (prune document01 t.cells path))
  prune_stayed e = rw (prune_stays document01 t.cells path (rw p.node_is e)) p.shown

  -- ---- it is the root

  module _ (none : childless t.cells u GREATEST ≡ true) (end : depth ≡ 0) where
    path_empty : path ≡ []
    path_empty = none_left path (omega (arith, p.depth_is))

    root_none : childless t.cells 1 GREATEST ≡ true
    unfolding node
    root_none = rw (ap (node t.cells) (sym path_empty) ∙ p.node_is) none

    pub prune_relocates : Relocates base check 1 1 [] t
    prune_relocates = record {
      shown = p.shown;
      tree = p.tree;
      fit = root_fit p.tree root_none;
      small = omega arith;
      codes_are = sym (childless_codes t.cells 1 GREATEST root_none);
      inside = λ c m. absurd m;
    }

    pub prune_relocated : {base' check' : List ℤ} →
        EveryTable (Relocates base check 1 1 []) (λ t. Shown base' check' (celled t (relocate t.cells 1 1))) →
        Shown base' check' (celled t (prune document01 t.cells path))
    prune_relocated f = rw (path_empty, prune_root document01 t.cells root_none) (f t prune_relocates)

-- ---- it becomes free, and its parent is looked at

module _ {base check : List ℤ} {u depth : ℕ} {t : Table} where
  last_label : {c : ℕ} {path : List ℕ} → Prunes base check u depth (c ∷ path) t → Step t.cells (node t.cells path) c u
  last_label {c} {path} p = last_step t.cells c path p.node_is (based_pos p.tree u p.based)

  module _ (more : depth ≢ 0) where
    pub prune_releases : (path : List ℕ) → Prunes base check u depth path t → Releases base check u t
    prune_releases [] p = absurd (omega (arith, p.depth_is))
    prune_releases (c ∷ path) p = record { shown = p.shown; far = step_far p.tree (last_label p); parent = step_used p.tree (last_label p) }

    module _ (none : childless t.cells u GREATEST ≡ true) where
      pub prune_parent : {s : ℕ} → s ≡ plus_at check u → {base' check' : List ℤ} →
          EveryTable (Releases base check u) (λ t. Shown base' check' (holding t u free)) → (path : List ℕ) → Prunes base check u depth path t → Prunes base' check' s (depth - 1) (drop 1 path) (holding t u free)
      prune_parent is f [] p = absurd (omega (arith, p.depth_is))
      prune_parent is f (c ∷ path) p =
          let k = last_label p in
          let parent = is ∙ shown_parent p.shown u (λ e. omega (arith, step_far p.tree k)) ∙ k.back in
          record {
            shown = f t (prune_releases (c ∷ path) p);
            tree = less_tree p.tree path k none;
            node_is = parent_stays p.tree path k none ∙ sym parent;
            depth_is = omega (arith, p.depth_is);
            based = rw parent (parent_based p.tree path k none);
          }

      pub prune_left : {base' check' : List ℤ} (path : List ℕ) → Prunes base check u depth path t →
          Shown base' check' (celled t (prune document01 (update t.cells u free) (drop 1 path))) →
          Shown base' check' (celled t (prune document01 t.cells path))
      prune_left [] p s = absurd (omega (arith, p.depth_is))
      prune_left (c ∷ path) p s = rw (prune_onward document01 t.cells c path (rw p.node_is none), p.node_is) s

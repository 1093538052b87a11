-- An insertion: the row stands at the new path, every other path has the row it had, and the count is the number of children that
-- changed cell. Assumes nothing.
use mathlib.Core.Path.{◌≡◌, refl, ap, ◌∙◌}
use mathlib.Core.Bool.{true, false, ◌||◌}
use mathlib.Core.List.{List, [], ◌∷◌, reverse_aux}
use Prim.Native.Nat.{ℕ, ◌+◌, ◌≤◌}
use native.Mathlib.Omega.{arith}
use lib.Dec.{ltb, eqb}
use borrow.Author.Tests.{eqb-true}
use Rattle.rules.specs.WhatTheIndexDoes.{Profile, is_row}
use Rattle.rules.specs.Table.{Cells, used, next, node}
use Rattle.rules.specs.Insertion.{relocate, Course, grow, collide, extend, insert_from}
use Rattle.rules.proofs.Choices.{branch, not_zero, neither}
use Rattle.tree.specs.Soundness.{Held, row_at, Fruit, Tree}
use Rattle.tree.specs.Moved.{Still, Moved}
use Rattle.tree.specs.AfterAnEdit.{Meant}
use Rattle.tree.proofs.Steps.{next_step}
use Rattle.tree.proofs.UsedCells.{unused_parent}
use Rattle.tree.proofs.Trees.{step_held, held_onward, held_end, fruit_weak}
use Rattle.tree.proofs.Relocation.{node_moved, row_moved, s_stays}
use Rattle.tree.proofs.RelocatedTree.{fruit_moved}
use Rattle.tree.proofs.Branches.{Place, Word, word_low, word_high, grow_count, Grown, grow_grown}
use Rattle.tree.proofs.Collisions.{base', collided, collide_fit, collide_tree, collide_place, collide_moved}

-- What an insertion means: `Meant`, and its count.
pub record Inserted (P : Profile) (T : Cells) (path : List ℕ) (n : ℕ) (course : Course) : Type 0 where
  pub meant : Meant P T path n course.table
  pub count : Moved T course.table.cells course.count

none_moved : (T R : Cells) → Still T R → Moved T R 0
none_moved T R still = record {
  parent = [];
  codes = [];
  once = tt;
  many = refl;
  each = λ d a. absurd a;
  all = λ r k. absurd (k.now (still r k.was));
}

module _ {P : Profile} (some : 1 ≤ P.greatest) (last n : ℕ) (row : is_row n ≡ true) {T : Cells} {size : ℕ} (w : Tree P T size) where
  -- ---- at the node s, whose label c leads nowhere

  module _ (fruit : Fruit T 0) (s c : ℕ) (based : 1 ≤ (T s).base) (cs path : List ℕ) (wd : Word P c cs) (e : node T path ≡ s) where
    -- A branch more: no node has changed cell.
    plain : (T ((T s).base + c)).parent ≡ 0 → Inserted P T (reverse_aux (c ∷ cs) path) n (grow last T size s c cs n)
    plain clear =
        let p : Place P T s c = record { based = based; low = word_low P c cs wd; high = word_high P c cs some wd; clear = clear } in
        let g = grow_grown some last n row cs c path w wd e p (fruit_weak w s fruit) in
        record { meant = g.meant; count = rw (grow_count last T size s c cs n) (none_moved T _ g.still) }

    -- The branch grows where the children of s have moved.
    grown : next T s c ≡ 0 → Grown P (relocate T s (base' w s c based)) (reverse_aux (c ∷ cs) path) n (collided w s c based last cs n).table
    unfolding relocate
    grown none =
        let m = collide_fit w s c based in
        let w' = collide_tree w s c based in
        let p = collide_place w s c based none (word_low P c cs wd) (word_high P c cs some wd) in
        grow_grown some last n row cs c path w' wd (node_moved w m path ∙ rw e (s_stays w m)) p (fruit_weak w' s (fruit_moved w m fruit))

    extend_inserted : next T s c ≡ 0 → Inserted P T (reverse_aux (c ∷ cs) path) n (extend P last T size s c cs n)
    unfolding extend collide relocate
    extend_inserted none = branch (Inserted P T (reverse_aux (c ∷ cs) path) n) (used T ((T s).base + c) || ltb last ((T s).base + c))
        (λ _.
        let g = grown none in
        let k = g.meant in
        record {
          meant = record { tree = k.tree; here = k.here; fruit = k.fruit; else = λ r d. k.else r d ∙ row_moved w (collide_fit w s c based) r };
          count = collide_moved w s c based _ g.still path e;
        })
        (λ f. plain (unused_parent T ((T s).base + c) (neither (used T ((T s).base + c)) (ltb last ((T s).base + c)) f).0))

  -- ---- along the labels that lead on

  -- What the cell holds to which the label c leads.
  next_held : (s c : ℕ) → eqb (next T s c) 0 ≡ false → Held c (T (next T s c))
  next_held s c f = step_held w (next_step T {s = s} {c = c} (not_zero (next T s c) f))

  pub insert_from_lem : Fruit T 0 → (cs : List ℕ) (c s : ℕ) (path : List ℕ) → Word P c cs → node T path ≡ s → 1 ≤ (T s).base →
      row_at T (reverse_aux (c ∷ cs) path) ≡ 0 → Inserted P T (reverse_aux (c ∷ cs) path) n (insert_from P last T size s (c ∷ cs) n)
  unfolding insert_from node
  insert_from_lem fruit [] c s path wd e based absent = branch (Inserted P T (c ∷ path) n) (eqb (next T s c) 0)
      (λ f. extend_inserted fruit s c based [] path wd e (eqb-true _ _ f))
      (λ f. absurd (omega (arith, held_end (next_held s c f) wd, absent, ap (λ (x : ℕ). (T (next T x c)).row) e)))
  insert_from_lem fruit (d ∷ cs) c s path wd e based absent = branch (Inserted P T (reverse_aux (d ∷ cs) (c ∷ path)) n) (eqb (next T s c) 0)
      (λ f. extend_inserted fruit s c based (d ∷ cs) path wd e (eqb-true _ _ f))
      (λ f. insert_from_lem fruit cs d (next T s c) (c ∷ path) wd.2 (rw e) (held_onward (next_held s c f) wd.0) absent)

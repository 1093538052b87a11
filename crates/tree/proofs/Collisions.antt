-- A node that collides: its children move to the placed base for their codes and the new one. The tree is kept, the new label's
-- cell is then unused, and the children, and no other nodes, have changed cell. Assumes nothing.
use mathlib.Core.Path.{◌≡◌, refl, sym, ap, ◌∙◌}
use mathlib.Core.Logic.{◌≢◌, inl, inr, ⊎_elim}
use mathlib.Core.List.{List, [], ◌∷◌}
use Prim.Native.Nat.{ℕ, ◌+◌, ◌≤◌, max}
use native.Mathlib.Omega.{arith}
use lib.ListN.{length}
use Rattle.numbers.proofs.Cases.{same?}
use Rattle.rules.specs.WhatTheIndexDoes.{Profile}
use Rattle.rules.specs.Table.{Cells, used, next, node, child_codes}
use Rattle.rules.specs.Placement.{greatest_of, placed}
use Rattle.rules.specs.Insertion.{relocate, Course, grow}
use Rattle.tree.specs.Soundness.{Tree}
use Rattle.tree.specs.Moved.{Fit, Still, Changed, Moved}
use Rattle.tree.specs.Members.{Among}
use Rattle.tree.proofs.Steps.{step_next, next_step, last_step}
use Rattle.tree.proofs.Trees.{one_path}
use Rattle.tree.proofs.Placement.{among_greatest}
use Rattle.tree.proofs.ChildCodes.{codes_lead, codes_once, step_among}
use Rattle.tree.proofs.PlacedChildren.{placed_clear, child_among, placed_fit}
use Rattle.tree.proofs.Relocation.{ρ, s_pos, child_changes, to_other, to_pos, node_moved, s_moved, clear_moved}
use Rattle.tree.proofs.RelocatedTree.{relocate_tree}
use Rattle.tree.proofs.Branches.{Place}

module _ {P : Profile} {T : Cells} {size : ℕ} (w : Tree P T size) (s c : ℕ) (based : 1 ≤ (T s).base) where
  -- The codes of the children, and the base to which they move.
  abbrev pub codes : List ℕ
  codes = child_codes T s P.greatest

  abbrev pub base' : ℕ
  base' = placed (used T) size (c ∷ codes)

  pub collide_fit : Fit T s (T s).base base'
  collide_fit = placed_fit w s based (c ∷ codes) (λ d a. inr a)

  pub collide_tree : Tree P (relocate T s base') (max size (base' + greatest_of (c ∷ codes)))
  collide_tree = relocate_tree w s base' collide_fit (max size (base' + greatest_of (c ∷ codes))) (omega arith) (λ d k.
      omega (arith, among_greatest (c ∷ codes) d (child_among w s based (c ∷ codes) (λ d a. inr a) d k)))

  pub collide_base : (relocate T s base' s).base ≡ base'
  unfolding relocate
  collide_base = s_moved w collide_fit

  -- The course of the labels cs after the move.
  abbrev pub collided : ℕ → List ℕ → ℕ → Course
  collided last cs n = grow last (relocate T s base') (max size (base' + greatest_of (c ∷ codes))) s c cs n

  pub collide_place : next T s c ≡ 0 → 1 ≤ c → c ≤ P.greatest → Place P (relocate T s base') s c
  unfolding relocate
  collide_place none low high =
      let clear = placed_clear w (c ∷ codes) c (inl refl) in
      record {
        based = rw (s_moved w collide_fit) collide_fit.new;
        low = low;
        high = high;
        clear = rw (s_moved w collide_fit) (clear_moved w collide_fit c nowhere clear);
      }
    where
      nowhere : (T ((T s).base + c)).parent ≢ s
      nowhere k = omega (arith, none, step_next T {s = s} {c = c} (record { based = based; at = refl; back = k }))

  -- R is the table after the move, or one with more cells.
  module _ (R : Cells) (still : Still (relocate T s base') R) (path : List ℕ) (e : node T path ≡ s) where
    node_now : (r : List ℕ) → 1 ≤ node T r → node R r ≡ ρ w collide_fit (node T r)
    unfolding relocate
    node_now r h =
        let k = node_moved w collide_fit r in
        still r (rw k (to_pos w collide_fit (node T r) h)) ∙ k

    changed : (r : List ℕ) → 1 ≤ node T r → (T (node T r)).parent ≡ s → Changed T R r
    changed r h k = record { was = h; now = λ f. child_changes w collide_fit (node T r) k (sym (node_now r h) ∙ f) }

    is_child : (r : List ℕ) → Changed T R r → (T (node T r)).parent ≡ s
    is_child r k = ⊎_elim (λ f. f)
        (λ d. absurd (k.now (node_now r k.was ∙ to_other w collide_fit (node T r) d))) (same? (T (node T r)).parent s)

    child_path : (r : List ℕ) → Changed T R r → (d : ℕ) × Among d codes × (r ≡ d ∷ path)
    unfolding node
    child_path [] k = absurd (omega (arith, is_child [] k, w.root_parent, s_pos w collide_fit))
    child_path (d ∷ r) k =
        let p = last_step T d r refl k.was in
        let f : node T r ≡ s = sym p.back ∙ is_child (d ∷ r) k in
        (d, step_among w (rw f at p), ap (◌∷◌ d) (one_path w r path f e (s_pos w collide_fit)))

    pub collide_moved : Moved T R (length codes)
    unfolding node
    collide_moved = record {
      parent = path;
      codes = codes;
      once = codes_once T s P.greatest;
      many = refl;
      each = λ d a. let n = (codes_lead T s P.greatest d a).2 in changed (d ∷ path) (rw e n) (rw e (next_step T n).back);
      all = child_path;
    }

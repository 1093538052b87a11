-- All placements in the course of an insertion fit exactly if the size it comes to is not past the last cell. Assumes nothing.
use mathlib.Core.Path.{◌≡◌, sym, ap}
use mathlib.Core.Logic.{⊎_elim}
use mathlib.Core.Bool.{Bool, ◌&&◌, ◌||◌}
use mathlib.Core.List.{List, [], ◌∷◌}
use Prim.Native.Nat.{ℕ, ◌+◌, ◌≤◌, max}
use native.Mathlib.Omega.{arith}
use lib.Dec.{leb, ltb, eqb}
use borrow.Author.Tests.{le-leb, lt-leb, ltb-false}
use Rattle.numbers.proofs.Cases.{lt_or_ge}
use Rattle.rules.specs.WhatTheIndexDoes.{Profile}
use Rattle.rules.specs.Table.{Cells, inner, update, used, next}
use Rattle.rules.specs.Placement.{greatest_of, placed, fits}
use Rattle.rules.specs.Insertion.{relocate, Course, grow, collide, extend, insert_from}
use Rattle.rules.proofs.Choices.{branch, not_zero, neither}
use Rattle.tree.specs.Soundness.{Tree}
use Rattle.tree.specs.Room.{Honest}
use Rattle.tree.proofs.Steps.{next_step}
use Rattle.tree.proofs.Trees.{step_held, held_onward}
use Rattle.tree.proofs.OneCell.{update_at}
use Rattle.tree.proofs.Branches.{Word}
use Rattle.tree.proofs.Collisions.{base', codes, collided, collide_base}

module _ (last : ℕ) where
  -- One placement more, whose greatest cell the size includes.
  placement_honest : (far size : ℕ) (more : Bool) → far ≤ size → (far ≤ last → more ≡ leb size last) → (leb far last && more) ≡ leb size last
  placement_honest far size more h on = ⊎_elim
      (λ g. rw (lt-leb far last g, lt-leb size last (omega arith)))
      (λ g. rw (le-leb far last g) (on g)) (lt_or_ge last far)

  grow_wide : (cs : List ℕ) (c : ℕ) (T : Cells) (size s n : ℕ) → max size ((T s).base + c) ≤ (grow last T size s c cs n).table.size
  unfolding grow
  grow_wide [] c T size s n = omega arith
  grow_wide (d ∷ cs) c T size s n =
      let t = (T s).base + c in
      let q = placed (used (update T t (inner s 1))) (max size t) (d ∷ []) in
      omega (arith, grow_wide cs d (update T t (inner s q)) (max size t) t n)

  grow_honest : (cs : List ℕ) (c : ℕ) (T : Cells) (size s n : ℕ) → size ≤ last → (T s).base + c ≤ last → Honest last (grow last T size s c cs n)
  unfolding grow fits greatest_of
  grow_honest [] c T size s n h k = sym (le-leb (max size ((T s).base + c)) last (omega arith))
  grow_honest (d ∷ cs) c T size s n h k =
      let t = (T s).base + c in
      let q = placed (used (update T t (inner s 1))) (max size t) (d ∷ []) in
      let f : (update T t (inner s q) t).base ≡ q = ap (λ x. x.base) (update_at T t (inner s q)) in
      let on = grow last (update T t (inner s q)) (max size t) t d cs n in
      let wide = grow_wide cs d (update T t (inner s q)) (max size t) t n in
      placement_honest (q + max d 0) on.table.size on.fitted (omega (arith, wide, f))
      (λ g. grow_honest cs d (update T t (inner s q)) (max size t) t n (omega arith) (omega (arith, g, f)))

  module _ {P : Profile} {T : Cells} {size : ℕ} (w : Tree P T size) (h : size ≤ last) (n : ℕ) where
    extend_honest : (s c : ℕ) (cs : List ℕ) → 1 ≤ (T s).base → Honest last (extend P last T size s c cs n)
    unfolding extend collide fits greatest_of
    extend_honest s c cs based = branch (Honest last) (used T ((T s).base + c) || ltb last ((T s).base + c))
        (λ e. placement_honest far on.table.size on.fitted (omega (arith, grow_wide cs c R (max size far) s n))
        (λ g. grow_honest cs c R (max size far) s n (omega arith) (omega (arith, collide_base w s c based))))
        (λ e. grow_honest cs c T size s n h (ltb-false last ((T s).base + c) (neither (used T ((T s).base + c)) (ltb last ((T s).base + c)) e).1))
      where
        far : ℕ
        far = base' w s c based + greatest_of (c ∷ codes w s c based)

        R : Cells
        R = relocate T s (base' w s c based)

        on : Course
        on = collided w s c based last cs n

    pub insert_honest : (cs : List ℕ) (c s : ℕ) → Word P c cs → 1 ≤ (T s).base → Honest last (insert_from P last T size s (c ∷ cs) n)
    unfolding insert_from
    insert_honest [] c s wd based = branch (Honest last) (eqb (next T s c) 0)
        (λ e. extend_honest s c [] based) (λ e. sym (le-leb size last h))
    insert_honest (d ∷ cs) c s wd based = branch (Honest last) (eqb (next T s c) 0)
        (λ e. extend_honest s c (d ∷ cs) based)
        (λ e. insert_honest cs d (next T s c) wd.2 (held_onward (step_held w (next_step T (not_zero (next T s c) e))) wd.0))

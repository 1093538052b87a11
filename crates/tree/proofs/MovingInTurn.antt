-- The loop that moves one child after another makes the relocation. `Midway` says what stands where after some of the moves, for
-- the program that makes them. Assumes nothing.
use mathlib.Core.Path.{◌≡◌, refl, sym, ap, ◌∙◌, fun_ext}
use mathlib.Core.Logic.{◌≢◌, ◌⊎◌, inl, inr, ⊎_elim}
use mathlib.Core.Bool.{true, false, cond, ◌&&◌, and-false}
use Prim.Native.Nat.{ℕ, zero, suc, ◌+◌, ◌-◌, ◌≤◌}
use native.Mathlib.Omega.{arith}
use lib.Dec.{leb, eqb}
use borrow.Author.Tests.{le-leb, lt-leb, eq-eqb, ne_eqb, eqb-true}
use Rattle.numbers.proofs.Cases.{lt_or_ge, same?}
use Rattle.rules.specs.WhatTheIndexDoes.{Profile}
use Rattle.rules.specs.Table.{Content, Cells, free, next, child_codes}
use Rattle.rules.specs.Insertion.{renamed, relocate}
use Rattle.rules.proofs.Choices.{branch, not_zero}
use Rattle.tree.specs.Soundness.{Step, Tree}
use Rattle.tree.specs.Moved.{Fit}
use Rattle.tree.specs.MovingInTurn.{under, hop, hops, rebase, in_turn}
use Rattle.tree.proofs.Steps.{step_next, next_step}
use Rattle.tree.proofs.Relocation.{M, ρ, Kept, s_pos, s_alone, child_far, child_near, to_child, to_other, to_place, place_clear, used_kept, based_kept, parent_kept, moved_at, moved_from, to_own, s_moved}

module _ (H : Cells) (t u : ℕ) where
  pub hop_new : hop H t u u ≡ H t
  unfolding hop
  hop_new = rw (eq-eqb u u refl)

  pub hop_old : t ≢ u → hop H t u t ≡ free
  unfolding hop
  hop_old d = rw (ne_eqb _ _ d, eq-eqb t t refl)

  pub hop_else : (v : ℕ) → v ≢ u → v ≢ t → hop H t u v ≡ under t u (H v)
  unfolding hop
  hop_else v d n = rw (ne_eqb _ _ d, ne_eqb _ _ n)

module _ {P : Profile} {T : Cells} {size : ℕ} (w : Tree P T size) {s b q : ℕ} (m : Fit T s b q) where
  -- ---- where the cells are after the children with codes up to k have moved

  -- The cell y is one of these children.
  abbrev Gone : ℕ → ℕ → Type 0
  Gone k y = ((T y).parent ≡ s) × (y ≤ b + k)

  -- Where the cell y then is.
  unfoldable pub τ : ℕ → ℕ → ℕ
  τ k y = cond (eqb (T y).parent s && leb y (b + k)) (y - b + q) y

  went : (k y : ℕ) → Gone k y → τ k y ≡ y - b + q
  unfolding τ
  went k y (e, h) = rw (eq-eqb _ _ e, le-leb _ _ h)

  gone? : (k y : ℕ) → Gone k y ⊎ (τ k y ≡ y)
  unfolding τ
  gone? k y = ⊎_elim
      (λ e. ⊎_elim (λ h. inr (rw (lt-leb _ _ h, and-false))) (λ h. inl (e, h)) (lt_or_ge (b + k) y))
      (λ d. inr (rw (ne_eqb (T y).parent s d))) (same? (T y).parent s)

  stays : (k y : ℕ) → (Gone k y → ⊥) → τ k y ≡ y
  stays k y d = ⊎_elim (λ g. absurd (d g)) (λ e. e) (gone? k y)

  -- Only the child with the code suc k goes next.
  onward : (k y : ℕ) → ((T y).parent ≡ s → y ≢ b + suc k) → τ (suc k) y ≡ τ k y
  onward k y f = go (gone? (suc k) y) (gone? k y)
    where
      go : Gone (suc k) y ⊎ (τ (suc k) y ≡ y) → Gone k y ⊎ (τ k y ≡ y) → τ (suc k) y ≡ τ k y
      go (inl (e, h)) x = let d = f e in went (suc k) y (e, h) ∙ sym (went k y (e, omega arith))
      go (inr v) (inl (e, h)) = went (suc k) y (e, omega arith) ∙ sym (went k y (e, h))
      go (inr v) (inr v') = v ∙ sym v'

  τ_zero : (y : ℕ) → τ 0 y ≡ y
  τ_zero y = stays 0 y (λ (e, h). omega (arith, child_far w m y e))

  τ_own : (k : ℕ) → τ k s ≡ s
  τ_own k = stays k s (λ (e, h). s_alone w m e)

  -- After all codes every child has moved.
  τ_all : (y : ℕ) → τ P.greatest y ≡ ρ w m y
  τ_all y = ⊎_elim
      (λ e. went P.greatest y (e, child_near w m y e) ∙ sym (to_child w m y e))
      (λ d. stays P.greatest y (λ (e, h). d e) ∙ sym (to_other w m y d)) (same? (T y).parent s)

  -- A child that has moved is at no kept cell.
  went_kept : (k x y : ℕ) → Gone k x → Kept w m y → τ k x ≢ y
  went_kept k x y (e, h) g f = g (rw (sym f ∙ went k x (e, h) ∙ sym (to_child w m x e), to_place w m x e) e)

  τ_same : (k x y : ℕ) → Kept w m x → Kept w m y → τ k x ≡ τ k y → x ≡ y
  τ_same k x y gx gy e = go (gone? k x) (gone? k y)
    where
      go : Gone k x ⊎ (τ k x ≡ x) → Gone k y ⊎ (τ k y ≡ y) → x ≡ y
      go (inl g) (inl h) = omega (arith, e, went k x g, went k y h, child_far w m x g.0, child_far w m y h.0)
      go (inl g) (inr v) = absurd (went_kept k x y g gy (e ∙ v))
      go (inr v) (inl h) = absurd (went_kept k y x h gx (sym e ∙ v))
      go (inr v) (inr v') = sym v ∙ e ∙ v'

  -- ---- what they then hold

  -- What the cell t of before contentThen.
  unfoldable pub content_then : ℕ → ℕ → Content
  content_then k t = record { parent = τ k (T t).parent; base = (T t).base; row = (T t).row }

  -- The cell u is that of a cell of before, or free.
  abbrev pub Comes : ℕ → Cells → ℕ → Type 0
  Comes k H u = ((t : ℕ) × Kept w m t × (τ k t ≡ u)) ⊎ (H u ≡ free)

  -- H are the cells after the children with codes up to k have moved.
  pub record Midway (k : ℕ) (H : Cells) : Type 0 where
    pub at : (t : ℕ) → Kept w m t → H (τ k t) ≡ content_then k t
    pub from : (u : ℕ) → Comes k H u

  start_from : (u : ℕ) → Comes 0 T u
  start_from u = ⊎_elim
      (λ e. let (h, z) = place_clear w m u e in inr (w.blank u (λ v. omega (arith, m.new)) z))
      (λ d. inl (u, d, τ_zero u)) (same? (T (u - q + b)).parent s)

  start : Midway 0 T
  unfolding content_then
  start = record { at = λ t g. rw (τ_zero t, τ_zero (T t).parent); from = start_from }

  module _ (k : ℕ) {H : Cells} (i : Midway k H) where
    -- s stays, with its base.
    pub own_base : (H s).base ≡ b
    unfolding content_then
    own_base = ap (λ x. x.base) (rw (τ_own k) at (i.at s (based_kept w m s (rw m.held m.old)))) ∙ m.held

    -- No child has the code suc k.
    skip : (T (b + suc k)).parent ≢ s → Midway (suc k) H
    unfolding content_then
    skip d = record {
      at = λ t g. rw (same t, same (T t).parent) (i.at t g);
      from = λ u. ⊎_elim (λ (t, g, f). inl (t, g, same t ∙ f)) inr (i.from u);
    }
      where
        same : (y : ℕ) → τ (suc k) y ≡ τ k y
        same y = onward k y (λ e f. d (rw f at e))

    -- The child with the code suc k goes from the cell old to the cell new.
    module _ (e : (T (b + suc k)).parent ≡ s) where
      abbrev old : ℕ
      old = b + suc k

      abbrev new : ℕ
      new = q + suc k

      old_kept : Kept w m old
      old_kept = used_kept w m old (rw e (s_pos w m))

      old_still : τ k old ≡ old
      old_still = stays k old (λ (f, h). omega arith)

      old_went : τ (suc k) old ≡ new
      old_went = went (suc k) old (e, omega arith) ∙ (omega arith)

      at_old : (t : ℕ) → Kept w m t → τ k t ≡ old → t ≡ old
      at_old t g v = τ_same k t old g old_kept (v ∙ sym old_still)

      at_new : (t : ℕ) → Kept w m t → τ k t ≢ new
      at_new t g v = ⊎_elim
          (λ (f, h). omega (arith, v, went k t (f, h), child_far w m t f))
          (λ f. went_kept (suc k) old t (e, omega arith) g (old_went ∙ sym v ∙ f)) (gone? k t)

      parent_then : (y : ℕ) → Kept w m y → cond (eqb (τ k y) old) new (τ k y) ≡ τ (suc k) y
      parent_then y g = ⊎_elim
          (λ (f : y ≡ old). rw (f, eq-eqb _ _ old_still) (sym old_went))
          (λ d. rw (ne_eqb _ _ (λ v. d (at_old y g v))) (sym (onward k y (λ h. d)))) (same? y old)

      holds_then : (t : ℕ) → under old new (content_then k t) ≡ content_then (suc k) t
      unfolding content_then under
      holds_then t = rw (parent_then (T t).parent (parent_kept w m t))

      old_holds : (j : ℕ) → content_then j old ≡ T old
      unfolding content_then
      old_holds j = λ i. record { parent = (ap (τ j) e ∙ τ_own j ∙ sym e) i; base = (T old).base; row = (T old).row }

      -- The child still contentThen what it held.
      pub old_at : H old ≡ T old
      old_at = rw old_still at (i.at old old_kept) ∙ old_holds k

      -- The cell to which it goes is still free.
      pub new_free : H new ≡ free
      new_free = ⊎_elim (λ (t, g, f). absurd (at_new t g f)) (λ f. f) (i.from new)

      parent_old : (t : ℕ) → Kept w m t → (H (τ k t)).parent ≡ old → (T t).parent ≡ old
      unfolding content_then
      parent_old t g h = at_old (T t).parent (parent_kept w m t) (rw (i.at t g) at h)

      -- Its own children are still where they were.
      pub old_below : (v : ℕ) → (H v).parent ≡ old → (T v).parent ≡ old
      old_below v h = ⊎_elim
          (λ (t, g, f). let p = parent_old t g (rw f h) in rw (sym (stays k t (λ (x, l). s_alone w m (rw (sym p ∙ x) at e))) ∙ f) at p)
          (λ f. absurd (omega (arith, ap (λ x. x.parent) f))) (i.from v)

      at_then : (t : ℕ) → Kept w m t → hop H old new (τ (suc k) t) ≡ content_then (suc k) t
      at_then t g = ⊎_elim
          (λ (f : t ≡ old). rw (f, old_went, hop_new H old new) (old_at ∙ sym (old_holds (suc k))))
          (λ d. rw (onward k t (λ h. d), hop_else H old new (τ k t) (at_new t g) (λ v. d (at_old t g v)), i.at t g) (holds_then t)) (same? t old)

      free_then : under old new free ≡ free
      unfolding under
      free_then = rw (ne_eqb 0 old (λ f. omega arith))

      from_then : (u : ℕ) → Comes (suc k) (hop H old new) u
      from_then u = go (same? u new) (same? u old) (i.from u)
        where
          go : (u ≡ new) ⊎ (u ≢ new) → (u ≡ old) ⊎ (u ≢ old) → Comes k H u → Comes (suc k) (hop H old new) u
          go (inl f) n x = inl (old, old_kept, old_went ∙ sym f)
          go (inr d) (inl f) x = inr (rw f (hop_old H old new (λ v. at_new old old_kept (old_still ∙ v))))
          go (inr d) (inr n) (inl (t, g, f)) = inl (t, g, onward k t (λ h v. n (sym f ∙ ap (τ k) v ∙ old_still)) ∙ f)
          go (inr d) (inr n) (inr f) = inr (rw (hop_else H old new u d n, f) free_then)

      step : Midway (suc k) (hop H old new)
      step = record { at = at_then; from = from_then }

  -- ---- the loop

  -- A label leads nowhere from s, or to a child.
  not_child : (c : ℕ) → eqb (next T s c) 0 ≡ true → (T (b + c)).parent ≢ s
  not_child c z e =
      let p : Step T s c (b + c) = record { based = rw m.held m.old; at = rw m.held refl; back = e } in
      omega (arith, step_next T p, eqb-true (next T s c) 0 z, m.old)

  is_child : (c : ℕ) → eqb (next T s c) 0 ≡ false → (T (b + c)).parent ≡ s
  is_child c f = let p = next_step T (not_zero (next T s c) f) in rw (p.at, m.held) at p.back

  pub hops_midway : (k : ℕ) → Midway k (hops T b q (child_codes T s k))
  unfolding hops child_codes
  hops_midway zero = start
  hops_midway (suc k) = branch (λ cs. Midway (suc k) (hops T b q cs)) (eqb (next T s (suc k)) 0)
      (λ e. skip k (hops_midway k) (not_child (suc k) e)) (λ e. step k (hops_midway k) (is_child (suc k) e))

  -- The cells after the last code.
  abbrev last : Cells
  last = hops T b q (child_codes T s P.greatest)

  last_midway : Midway P.greatest last
  last_midway = hops_midway P.greatest

  rebase_at : (u : ℕ) → (t : ℕ) × Kept w m t × (ρ w m t ≡ u) → rebase last s q u ≡ M w m u
  unfolding rebase renamed content_then
  rebase_at u (t, g, e) =
      let f : last (ρ w m t) ≡ content_then P.greatest t = rw (← τ_all t) (last_midway.at t g) in
      rw (← e, f, moved_at w m t g, τ_all (T t).parent, to_own w m t g)

  rebase_free : (u : ℕ) → M w m u ≡ free → last u ≡ free → rebase last s q u ≡ M w m u
  unfolding rebase
  rebase_free u h f =
      let d : u ≢ s = (λ v. omega (arith, m.new, s_moved w m, ap (λ x. x.base) h, ap (λ (x : ℕ). (M w m x).base) v)) in
      rw (f, h, ne_eqb _ _ d)

  rebase_moved : (u : ℕ) → rebase last s q u ≡ M w m u
  rebase_moved u = ⊎_elim (rebase_at u)
      (λ h. ⊎_elim (λ (t, g, e). rebase_at u (t, g, sym (τ_all t) ∙ e)) (rebase_free u h) (last_midway.from u)) (moved_from w m u)

pub in_turn_relocates : {P : Profile} {T : Cells} {size : ℕ} → Tree P T size → (s q : ℕ) → Fit T s (T s).base q → in_turn P T s q ≡ relocate T s q
unfolding in_turn relocate
in_turn_relocates w s q m = fun_ext (rebase_moved w m)

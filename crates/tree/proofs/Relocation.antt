-- A relocation renames cells: what leads where, and every row, stays. Assumes nothing.
use mathlib.Core.Path.{◌≡◌, refl, sym, ap, ◌∙◌}
use mathlib.Core.Logic.{◌≢◌, ◌⊎◌, inl, inr, ⊎_elim}
use mathlib.Core.Bool.{cond}
use mathlib.Core.List.{List, [], ◌∷◌}
use Prim.Native.Nat.{ℕ, zero, suc, ◌+◌, ◌-◌, ◌≤◌, ◌<◌}
use native.Mathlib.Omega.{arith}
use lib.Dec.{eqb}
use borrow.Author.Tests.{eq-eqb, ne_eqb}
use Rattle.numbers.proofs.Cases.{same?, some?}
use Rattle.rules.specs.WhatTheIndexDoes.{Profile}
use Rattle.rules.specs.Table.{Cells, free, next, node, child_codes}
use Rattle.rules.specs.Insertion.{to, renamed, moved}
use Rattle.tree.specs.Soundness.{Step, row_at, Tree}
use Rattle.tree.specs.Moved.{Fit}
use Rattle.tree.proofs.Steps.{step_next, step?}
use Rattle.tree.proofs.Trees.{zero_parent, based_pos, based_used, step_used, no_loop}

module _ {P : Profile} {T : Cells} {size : ℕ} (w : Tree P T size) {s b q : ℕ} (m : Fit T s b q) where
  -- The table afterwards.
  abbrev pub M : Cells
  M = moved T s b q

  -- Where a cell then is.
  abbrev pub ρ : ℕ → ℕ
  ρ = to T s b q

  -- The base of a cell afterwards.
  abbrev pub base_to : ℕ → ℕ
  base_to t = cond (eqb t s) q (T t).base

  -- u is not a cell to which a child moves.
  abbrev pub Kept : ℕ → Type 0
  Kept u = (T (u - q + b)).parent ≢ s

  s_based : 1 ≤ (T s).base
  s_based = rw m.held m.old

  pub s_pos : 1 ≤ s
  s_pos = based_pos w s s_based

  -- ---- where things go

  pub child_far : (t : ℕ) → (T t).parent ≡ s → b < t
  child_far t e = let k = w.sits t (rw e s_pos) in omega (arith, m.held, k.step.at, k.low, ap (λ (x : ℕ). (T x).base) e)

  pub child_near : (t : ℕ) → (T t).parent ≡ s → t ≤ b + P.greatest
  child_near t e = let k = w.sits t (rw e s_pos) in omega (arith, m.held, k.step.at, k.high, ap (λ (x : ℕ). (T x).base) e)

  pub to_child : (t : ℕ) → (T t).parent ≡ s → ρ t ≡ t - b + q
  unfolding to
  to_child t e = rw (eq-eqb _ _ e)

  pub to_other : (t : ℕ) → (T t).parent ≢ s → ρ t ≡ t
  unfolding to
  to_other t d = rw (ne_eqb _ _ d)

  pub to_place : (t : ℕ) → (T t).parent ≡ s → ρ t - q + b ≡ t
  to_place t e = rw (to_child t e) (omega (arith, child_far t e))

  -- A cell to which a child moves is unused.
  pub place_clear : (u : ℕ) → (T (u - q + b)).parent ≡ s → (q < u) × ((T u).parent ≡ 0)
  place_clear u e =
      let h : b < u - q + b = child_far (u - q + b) e in
      let k : (T (q + (u - q))).parent ≡ 0 = m.clear (u - q) (rw (let z : b + (u - q) ≡ u - q + b = omega arith in z) e) in
      (omega arith, rw (let g : q + (u - q) ≡ u = omega arith in g) at k)

  pub child_changes : (t : ℕ) → (T t).parent ≡ s → ρ t ≢ t
  child_changes t e f = omega (arith, s_pos, ap (λ (x : ℕ). (T x).parent) f, (place_clear (ρ t) (rw (to_place t e) e)).1)

  pub place_from : (u : ℕ) → (T (u - q + b)).parent ≡ s → ρ (u - q + b) ≡ u
  place_from u e = rw (to_child (u - q + b) e) (omega (arith, (place_clear u e).0))

  pub used_kept : (u : ℕ) → 1 ≤ (T u).parent → Kept u
  used_kept u h e = omega (arith, place_clear u e)

  pub low_kept : (u : ℕ) → u ≤ 1 → Kept u
  low_kept u h e = omega (arith, place_clear u e)

  pub based_kept : (u : ℕ) → 1 ≤ (T u).base → Kept u
  based_kept u h = ⊎_elim (λ e. low_kept u (omega arith)) (used_kept u) (based_used w u h)

  pub parent_kept : (t : ℕ) → Kept (T t).parent
  parent_kept t = ⊎_elim (λ e. rw e (low_kept 0 (omega arith))) (λ h. based_kept (T t).parent (w.sits t h).step.based) (some? (T t).parent)

  pub to_zero : ρ 0 ≡ 0
  to_zero = to_other 0 (λ e. omega (arith, zero_parent w, s_pos))

  pub to_one : ρ 1 ≡ 1
  to_one = to_other 1 (λ e. omega (arith, w.root_parent, s_pos))

  pub to_pos : (t : ℕ) → 1 ≤ t → 1 ≤ ρ t
  to_pos t h = ⊎_elim (λ e. rw (to_child t e) (omega (arith, m.new))) (λ d. rw (to_other t d) h) (same? (T t).parent s)

  pub s_alone : (T s).parent ≢ s
  s_alone = no_loop w s s_pos

  pub s_stays : ρ s ≡ s
  s_stays = to_other s s_alone

  -- ---- what stands there

  pub moved_at : (t : ℕ) → Kept t → M (ρ t) ≡ renamed T s b q t
  unfolding moved
  moved_at t g = ⊎_elim (λ e. rw (to_place t e, eq-eqb _ _ e)) (λ d. rw (to_other t d, ne_eqb _ _ g, ne_eqb _ _ d)) (same? (T t).parent s)

  -- A cell that a child has left is free.
  pub left_free : (t : ℕ) → (T t).parent ≡ s → M t ≡ free
  unfolding moved
  left_free t e = rw (ne_eqb _ _ (used_kept t (rw e s_pos)), eq-eqb _ _ e)

  -- A cell afterwards: one that stood somewhere before, or a free one.
  pub moved_from : (u : ℕ) → ((t : ℕ) × Kept t × (ρ t ≡ u)) ⊎ (M u ≡ free)
  moved_from u = go (same? (T (u - q + b)).parent s) (same? (T u).parent s)
    where
      go : ((T (u - q + b)).parent ≡ s) ⊎ Kept u → ((T u).parent ≡ s) ⊎ ((T u).parent ≢ s) → ((t : ℕ) × Kept t × (ρ t ≡ u)) ⊎ (M u ≡ free)
      go (inl e) k = inl (u - q + b, used_kept (u - q + b) (rw e s_pos), place_from u e)
      go (inr d) (inl e) = inr (left_free u e)
      go (inr d) (inr f) = inl (u, d, to_other u f)

  pub to_same : (x y : ℕ) → Kept x → Kept y → ρ x ≡ ρ y → x ≡ y
  to_same x y gx gy e = go (same? (T x).parent s) (same? (T y).parent s)
    where
      go : ((T x).parent ≡ s) ⊎ ((T x).parent ≢ s) → ((T y).parent ≡ s) ⊎ ((T y).parent ≢ s) → x ≡ y
      go (inl f) (inl g) = omega (arith, sym (to_child x f) ∙ e ∙ to_child y g, child_far x f, child_far y g)
      go (inl f) (inr g) = absurd (gy (rw (sym (to_other y g) ∙ sym e, to_place x f) f))
      go (inr f) (inl g) = absurd (gx (rw (sym (to_other x f) ∙ e, to_place y g) g))
      go (inr f) (inr g) = sym (to_other x f) ∙ e ∙ to_other y g

  -- Only s is afterwards where s is.
  pub to_s : (t : ℕ) → Kept t → ρ t ≡ s → t ≡ s
  to_s t g e = to_same t s g (based_kept s s_based) (e ∙ sym s_stays)

  pub to_own : (t : ℕ) → Kept t → eqb (ρ t) s ≡ eqb t s
  to_own t g = ⊎_elim (λ (e : t ≡ s). rw (e, s_stays)) (λ d. rw (ne_eqb t s d) (ne_eqb _ _ (λ e. d (to_s t g e)))) (same? t s)

  -- ---- a step before is a step afterwards, and the other way round

  base_own : (x : ℕ) → x ≡ s → base_to x ≡ q
  base_own x e = rw (eq-eqb _ _ e)

  pub base_other : (x : ℕ) → x ≢ s → base_to x ≡ (T x).base
  base_other x d = rw (ne_eqb _ _ d)

  pub base_after : (x : ℕ) → 1 ≤ (T x).base → 1 ≤ base_to x
  base_after x h = ⊎_elim (λ e. rw (base_own x e) m.new) (λ d. rw (base_other x d) h) (same? x s)

  pub base_before : (x : ℕ) → 1 ≤ base_to x → 1 ≤ (T x).base
  base_before x h = ⊎_elim (λ e. rw e s_based) (λ d. rw (base_other x d) at h) (same? x s)

  -- A child keeps its distance from its parent's base.
  shift : (x t : ℕ) → (T t).parent ≡ x → ρ t + (T x).base ≡ t + base_to x
  shift x t u = ⊎_elim
      (λ e. rw (base_own x e, to_child t (u ∙ e)) (omega (arith, child_far t (u ∙ e), m.held, ap (λ (y : ℕ). (T y).base) e)))
      (λ d. rw (base_other x d, to_other t (λ v. d (sym u ∙ v)))) (same? x s)

  pub step_to : {x c t : ℕ} → Step T x c t → Step M (ρ x) c (ρ t)
  unfolding renamed
  step_to {x} {c} {t} p =
      let ex = moved_at x (based_kept x p.based) in
      let et = moved_at t (used_kept t (step_used w p)) in
      record { based = rw ex (base_after x p.based); at = rw ex (omega (arith, shift x t p.back, p.at)); back = rw (et, p.back) }

  step_from : {x c u : ℕ} → Kept x → Step M (ρ x) c u → (t : ℕ) × Step T x c t × (ρ t ≡ u)
  unfolding renamed
  step_from {x} {c} {u} g p = go (moved_from u)
    where
      ex : M (ρ x) ≡ renamed T s b q x
      ex = moved_at x g

      hx : 1 ≤ (T x).base
      hx = base_before x (rw ex at p.based)

      go : ((t : ℕ) × Kept t × (ρ t ≡ u)) ⊎ (M u ≡ free) → (t : ℕ) × Step T x c t × (ρ t ≡ u)
      go (inr e) = absurd (omega (arith, rw e at p.back, to_pos x (based_pos w x hx)))
      go (inl (t, gt, e)) =
          let eu : ρ (T t).parent ≡ ρ x = rw (← e, moved_at t gt) at p.back in
          let back = to_same (T t).parent x (parent_kept t) g eu in
          (t, record { based = hx; at = omega (arith, shift x t back, e, rw ex at p.at); back = back }, e)

  pub next_moved : (x c : ℕ) → Kept x → next M (ρ x) c ≡ ρ (next T x c)
  next_moved x c g = go (step? T x c) (step? M (ρ x) c)
    where
      go : Step T x c (next T x c) ⊎ (next T x c ≡ 0) → Step M (ρ x) c (next M (ρ x) c) ⊎ (next M (ρ x) c ≡ 0) → next M (ρ x) c ≡ ρ (next T x c)
      go (inl p) k = step_next M (step_to p)
      go (inr e) (inl p) = let (t, p', f) = step_from g p in rw (step_next T p') (sym f)
      go (inr e) (inr f) = rw (e, f) (sym to_zero)

  -- ---- every path leads to the cell's new place, and to the row it led to

  next_kept : (x c : ℕ) → Kept (next T x c)
  next_kept x c = ⊎_elim (λ p. used_kept (next T x c) (step_used w p)) (λ e. rw e (low_kept 0 (omega arith))) (step? T x c)

  node_kept : (path : List ℕ) → Kept (node T path)
  unfolding node
  node_kept [] = low_kept 1 (omega arith)
  node_kept (c ∷ path) = next_kept (node T path) c

  pub node_moved : (path : List ℕ) → node M path ≡ ρ (node T path)
  unfolding node
  node_moved [] = sym to_one
  node_moved (c ∷ path) = rw (node_moved path) (next_moved (node T path) c (node_kept path))

  pub row_moved : (path : List ℕ) → row_at M path ≡ row_at T path
  unfolding renamed
  row_moved path = ap (λ (t : ℕ). (M t).row) (node_moved path) ∙ ap (λ x. x.row) (moved_at (node T path) (node_kept path))

  -- ---- the cells that matter to the move itself

  pub s_moved : (M s).base ≡ q
  unfolding renamed
  s_moved = ap (λ x. x.base) (rw s_stays at (moved_at s (based_kept s s_based))) ∙ base_own s refl

  -- An unused cell to which no child goes stays unused.
  pub clear_moved : (c : ℕ) → (T (b + c)).parent ≢ s → (T (q + c)).parent ≡ 0 → (M (q + c)).parent ≡ 0
  unfolding renamed
  clear_moved c d z =
      let g : Kept (q + c) = (λ e. d (rw (let z : b + c ≡ q + c - q + b = omega arith in z) e)) in
      let n : (T (q + c)).parent ≢ s = (λ e. omega (arith, s_pos)) in
      ap (λ x. x.parent) (rw (to_other (q + c) n) at (moved_at (q + c) g)) ∙ ap ρ z ∙ to_zero

  -- ---- the children of s keep their codes

  codes_same : (c : ℕ) → eqb (next M s c) 0 ≡ eqb (next T s c) 0
  codes_same c = rw (rw s_stays at (next_moved s c (based_kept s s_based))) (⊎_elim
      (λ z. ap (λ (x : ℕ). eqb x 0) (ap ρ z ∙ to_zero ∙ sym z))
      (λ h. ne_eqb (ρ (next T s c)) 0 (λ e. omega (arith, to_pos (next T s c) h)) ∙ sym (ne_eqb (next T s c) 0 (λ e. omega arith)))
      (some? (next T s c)))

  pub codes_moved : (k : ℕ) → child_codes M s k ≡ child_codes T s k
  unfolding child_codes
  codes_moved zero = refl
  codes_moved (suc k) = rw (codes_same (suc k), codes_moved k)

-- A relocation and the one back leave every cell as it was. Assumes nothing.
use mathlib.Core.Path.{◌≡◌, refl, sym, ap, ◌∙◌, fun_ext}
use mathlib.Core.Logic.{◌≢◌, ⊎_elim}
use mathlib.Core.Bool.{cond}
use Prim.Native.Nat.{ℕ, ◌+◌, ◌-◌}
use native.Mathlib.Omega.{arith}
use lib.Dec.{eqb}
use borrow.Author.Tests.{eq-eqb, ne_eqb}
use Rattle.numbers.proofs.Cases.{same?}
use Rattle.rules.specs.WhatTheIndexDoes.{Profile}
use Rattle.rules.specs.Table.{Cells}
use Rattle.rules.specs.Insertion.{renamed, moved, relocate}
use Rattle.tree.specs.Soundness.{Tree}
use Rattle.tree.specs.Moved.{Fit}
use Rattle.tree.proofs.Relocation.{M, ρ, base_to, Kept, s_pos, s_stays, child_near, to_child, to_other, to_place, place_clear, place_from, used_kept, parent_kept, moved_at, moved_from, left_free, to_s, to_own, s_moved}
use Rattle.tree.proofs.RelocatedTree.{tree_moved}

module _ {P : Profile} {T : Cells} {size : ℕ} (w : Tree P T size) {s b q : ℕ} (m : Fit T s b q) where
  -- ---- the children of s, before and after

  child_after : (t : ℕ) → (T t).parent ≡ s → (M w m (ρ w m t)).parent ≡ s
  unfolding renamed
  child_after t e = ap (λ x. x.parent) (moved_at w m t (used_kept w m t (rw e (s_pos w m)))) ∙ ap (ρ w m) e ∙ s_stays w m

  child_before : (t : ℕ) → Kept w m t → (M w m (ρ w m t)).parent ≡ s → (T t).parent ≡ s
  unfolding renamed
  child_before t g e = to_s w m (T t).parent (parent_kept w m t) (rw (moved_at w m t g) at e)

  -- A child afterwards stood as far from b as it stands from q.
  child_from : (u : ℕ) → (M w m u).parent ≡ s → (T (u - q + b)).parent ≡ s
  child_from u e = ⊎_elim
      (λ (t, g, f). let k = child_before t g (rw f e) in rw (← f, to_place w m t k) k)
      (λ f. absurd (omega (arith, s_pos w m, ap (λ x. x.parent) f))) (moved_from w m u)

  -- No cell goes to where a child was.
  to_apart : (t : ℕ) → Kept w m t → (T (ρ w m t)).parent ≢ s
  to_apart t g e = ⊎_elim
      (λ f. omega (arith, s_pos w m, place_clear w m (ρ w m t) (rw (to_place w m t f) f)))
      (λ d. d (rw (to_other w m t d) at e)) (same? (T t).parent s)

  pub fit_back : Fit (moved T s b q) s q b
  fit_back = record {
    held = s_moved w m;
    old = m.new;
    new = m.old;
    clear = λ c e. ap (λ x. x.parent) (left_free w m (b + c) (rw (let z : b + c ≡ q + c - q + b = omega arith in z) (child_from (q + c) e)));
  }

  tree_then : Tree P (M w m) (size + q + P.greatest)
  tree_then = tree_moved w m (size + q + P.greatest) (omega arith) (λ c e. omega (arith, child_near w m (b + c) e))

  -- ---- every cell goes back to where it was, and holds what it held

  to_back : (t : ℕ) → Kept w m t → ρ tree_then fit_back (ρ w m t) ≡ t
  to_back t g = ⊎_elim
      (λ e. to_child tree_then fit_back (ρ w m t) (child_after t e) ∙ to_place w m t e)
      (λ d. to_other tree_then fit_back (ρ w m t) (λ e. d (child_before t g e)) ∙ to_other w m t d) (same? (T t).parent s)

  kept_back : (t : ℕ) → Kept w m t → Kept tree_then fit_back (ρ w m t)
  kept_back t g e =
      let (h, z) = place_clear tree_then fit_back (ρ w m t) e in
      to_apart t g (rw (let z : ρ w m t ≡ ρ w m t - b + q - q + b = omega arith in z) (child_from (ρ w m t - b + q) e))

  base_back : (t : ℕ) → Kept w m t → cond (eqb (ρ w m t) s) b (base_to w m t) ≡ (T t).base
  base_back t g = rw (to_own w m t g) (⊎_elim
      (λ (e : t ≡ s). rw (e, eq-eqb s s refl) (sym m.held))
      (λ d. rw (ne_eqb t s d)) (same? t s))

  renamed_back : (t : ℕ) → Kept w m t → renamed (M w m) s q b (ρ w m t) ≡ T t
  unfolding renamed
  renamed_back t g = rw (moved_at w m t g) (λ i. record {
    parent = to_back (T t).parent (parent_kept w m t) i;
    base = base_back t g i;
    row = (T t).row;
  })

  kept_same : (t : ℕ) → Kept w m t → moved (M w m) s q b t ≡ T t
  kept_same t g = rw (to_back t g) at (moved_at tree_then fit_back (ρ w m t) (kept_back t g)) ∙ renamed_back t g

  place_same : (u : ℕ) → (T (u - q + b)).parent ≡ s → moved (M w m) s q b u ≡ T u
  place_same u e =
      let (h, z) = place_clear w m u e in
      let f : (M w m u).parent ≡ s = rw (place_from w m u e) at (child_after (u - q + b) e) in
      left_free tree_then fit_back u f ∙ sym (w.blank u (λ v. omega (arith, m.new)) z)

  moved_back : moved (moved T s b q) s q b ≡ T
  moved_back = fun_ext (λ u. ⊎_elim (place_same u) (kept_same u) (same? (T (u - q + b)).parent s))

pub relocate_back : {P : Profile} {T : Cells} {size : ℕ} → Tree P T size → (s q : ℕ) → Fit T s (T s).base q →
    relocate (relocate T s q) s (T s).base ≡ T
unfolding relocate
relocate_back w s q m = rw (s_moved w m) (moved_back w m)

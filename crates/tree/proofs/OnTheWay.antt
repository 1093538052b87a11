-- The cells on the way from a cell to the root. A leaf below a cell lies below exactly one of its children. Assumes nothing.
use mathlib.Core.Path.{◌≡◌, refl, sym, ap, ◌∙◌}
use mathlib.Core.Logic.{◌≢◌, ◌⊎◌, inl, inr, ⊎_elim}
use mathlib.Core.Bool.{Bool, true, false, cond, ◌||◌, true≢false}
use mathlib.Core.List.{List, [], ◌∷◌}
use Prim.Native.Nat.{ℕ, zero, suc, ◌≤◌, ◌<◌}
use native.Mathlib.Omega.{arith}
use lib.ListN.{length}
use lib.Dec.{eqb}
use borrow.Author.Tests.{eq-eqb, ne_eqb, eqb-true, eqb-false}
use Rattle.numbers.proofs.Cases.{same?, some?}
use Rattle.rules.specs.WhatTheIndexDoes.{Profile}
use Rattle.rules.specs.Table.{Cells, next, node}
use Rattle.rules.specs.Listing.{listed}
use Rattle.rules.proofs.Choices.{branch, fails}
use Rattle.tree.specs.Soundness.{Step, Tree}
use Rattle.tree.specs.Sums.{sum_to}
use Rattle.tree.proofs.Steps.{step_next, next_step, last_step}
use Rattle.tree.proofs.Trees.{zero_parent, based_pos, step_low, step_high, step_far, one_path}
use Rattle.tree.proofs.Listing.{listed_once}
use Rattle.tree.proofs.Sums.{sum_same, sum_none, sum_one}

-- Whether s is t or one of the k cells above it.
unfoldable pub above : Cells → ℕ → ℕ → ℕ → Bool
above T zero s t = eqb t s
above T (suc k) s t = eqb t s || above T k s (T t).parent

module _ {P : Profile} {T : Cells} {size : ℕ} (w : Tree P T size) where
  above_zero : (k : ℕ) {s : ℕ} → 1 ≤ s → above T k s 0 ≡ false
  unfolding above
  above_zero zero {s} h = ne_eqb 0 s (λ e. omega arith)
  above_zero (suc k) {s} h = rw (ne_eqb 0 s (λ e. omega arith), zero_parent w) (above_zero k h)

  pub above_self : (k : ℕ) {s t : ℕ} → t ≡ s → above T k s t ≡ true
  unfolding above
  above_self zero {s} {t} e = eq-eqb t s e
  above_self (suc k) {s} {t} e = rw (eq-eqb t s e)

  -- Nothing but the root itself is on its way.
  above_root : (k : ℕ) {s : ℕ} → 2 ≤ s → above T k s 1 ≡ false
  unfolding above
  above_root zero {s} h = ne_eqb 1 s (λ e. omega arith)
  above_root (suc k) {s} h = rw (ne_eqb 1 s (λ e. omega arith), w.root_parent) (above_zero k (omega arith))

  -- From a cell to which a path leads, the way goes on from the cell before the last label.
  module _ (c : ℕ) (path : List ℕ) {t : ℕ} (leads : node T (c ∷ path) ≡ t) (pos : 1 ≤ t) where
    above_on : (k : ℕ) {s : ℕ} → t ≢ s → above T (suc k) s t ≡ above T k s (node T path)
    unfolding above
    above_on k {s} d = rw (ne_eqb t s d, (last_step T c path leads pos).back)

  -- The root is on every way.
  pub root_above : (k : ℕ) (p : List ℕ) {t : ℕ} → node T p ≡ t → 1 ≤ t → length p ≤ k → above T k 1 t ≡ true
  unfolding node
  root_above k [] f l h = above_self k (sym f)
  root_above zero (c ∷ p) f l h = absurd (omega arith)
  root_above (suc k) (c ∷ p) {t} f l h =
      let u = last_step T c p f l in
      above_on c p f l k (λ e. omega (arith, step_far w u)) ∙ root_above k p refl (based_pos w (node T p) u.based) (omega arith)

  -- A path to a cell on the way is no longer, and shorter unless it is the same cell.
  pub above_shorter : (k : ℕ) (q : List ℕ) {s t : ℕ} → node T q ≡ s → 1 ≤ s → (p : List ℕ) → node T p ≡ t → 1 ≤ t →
      above T k s t ≡ true → (t ≡ s) ⊎ (length q < length p)
  unfolding above node
  above_shorter zero q {s} {t} e h p f l a = inl (eqb-true t s a)
  above_shorter (suc k) q {s} {t} e h [] f l a = ⊎_elim inl
      (λ d. absurd (true≢false (sym a ∙ rw (ne_eqb t s d, ← f, w.root_parent) (above_zero k h)))) (same? t s)
  above_shorter (suc k) q {s} {t} e h (c ∷ p) f l a = ⊎_elim inl
      (λ d. let u = last_step T c p f l in
      ⊎_elim (λ v. inr (omega (arith, ap length (one_path w q p e v h)))) (λ m. inr (omega arith))
      (above_shorter k q e h p refl (based_pos w (node T p) u.based) (sym (above_on c p f l k d) ∙ a)))
      (same? t s)

  -- ---- by way of a child

  -- x, if the label c leads from s to a cell on the way of t.
  abbrev pub via : ℕ → ℕ → ℕ → ℕ → ℕ → ℕ
  via k s t x c = cond (eqb (next T s c) 0) 0 (cond (above T k (next T s c) t) x 0)

  via_none : (k s t x c : ℕ) → (1 ≤ next T s c → above T k (next T s c) t ≡ false) → via k s t x c ≡ 0
  via_none k s t x c h = branch (λ (y : ℕ). y ≡ 0) (eqb (next T s c) 0) (λ z. refl)
      (λ d. let e = h (omega (arith, eqb-false (next T s c) 0 d)) in rw e)

  module _ {s : ℕ} (q : List ℕ) (to_s : node T q ≡ s) (low : 1 ≤ s) where
    -- A child of s is not above it.
    child_below : (k c : ℕ) → 1 ≤ next T s c → above T k (next T s c) s ≡ false
    unfolding node
    child_below k c h = fails (above T k (next T s c) s) (λ a.
        let e : node T (c ∷ q) ≡ next T s c = ap (λ x. next T x c) to_s in
        ⊎_elim (λ v. omega (arith, ap length (one_path w (c ∷ q) q e (to_s ∙ v) h))) (λ l. omega (arith, l))
        (above_shorter k (c ∷ q) e h q to_s low a))

    -- Where the last step to t is by the label c from s.
    module _ {c t : ℕ} (p : Step T s c t) (k x : ℕ) where
      via_here : via (suc k) s t x c ≡ x
      via_here = rw (step_next T p, ne_eqb t 0 (λ e. omega (arith, step_far w p)), above_self (suc k) {s = t} refl)

      via_other : (d : ℕ) → d ≢ c → via (suc k) s t x d ≡ 0
      unfolding above
      via_other d o = via_none (suc k) s t x d (λ h.
          let r = next_step T {s = s} {c = d} h in
          rw (ne_eqb t (next T s d) (λ e. o (omega (arith, p.at, r.at))), p.back) (child_below k d h))

      via_one : sum_to P.greatest (λ i. via (suc k) s t x (listed P i)) ≡ x
      via_one =
          let (i, l, h, e, only) = listed_once P c (step_low w p) (step_high w p) in
          sum_one P.greatest i (λ j. via (suc k) s t x (listed P j)) l h (λ j a b d. via_other (listed P j) (λ v. d (only j a b v)))
          ∙ ap (via (suc k) s t x) e ∙ via_here

    -- Where it is not from s.
    via_on : (k x c a : ℕ) (p : List ℕ) {t : ℕ} → node T (a ∷ p) ≡ t → 1 ≤ t → node T p ≢ s → via (suc k) s t x c ≡ via k s (node T p) x c
    via_on k x c a p {t} f l d = go (some? (next T s c))
      where
        go : (next T s c ≡ 0) ⊎ (1 ≤ next T s c) → via (suc k) s t x c ≡ via k s (node T p) x c
        go (inl z) = rw (eq-eqb (next T s c) 0 z)
        go (inr h) =
            let o : t ≢ next T s c = λ e. d (sym (last_step T a p f l).back ∙ ap (λ u. (T u).parent) e ∙ (next_step T {s = s} {c = c} h).back) in
            rw (above_on a p f l k o)

    -- A cell other than s has s on its way exactly if one child of s is on it.
    pub above_split : (k x : ℕ) (p : List ℕ) {t : ℕ} → node T p ≡ t → 1 ≤ t → length p ≤ k → t ≢ s →
        sum_to P.greatest (λ i. via k s t x (listed P i)) ≡ cond (above T k s t) x 0
    unfolding node
    above_split k x [] {t} f l h d =
        let e : above T k s t ≡ false = rw (← f) (above_root k (omega (arith, f))) in
        rw e (sum_none P.greatest _ (λ i a b. via_none k s t x (listed P i) (λ m.
        rw (← f) (above_root k (step_far w (next_step T {s = s} {c = listed P i} m))))))
    above_split zero x (c ∷ p) f l h d = absurd (omega arith)
    above_split (suc k) x (c ∷ p) {t} f l h d = ⊎_elim
        (λ e. rw (above_on c p f l k d, above_self k e) (via_one (rw e at (last_step T c p f l)) k x))
        (λ o. sum_same P.greatest _ _ (λ i a b. via_on k x (listed P i) c p f l o)
        ∙ above_split k x p refl (based_pos w (node T p) (last_step T c p f l).based) (omega arith) o
        ∙ ap (λ (b : Bool). cond b x 0) (sym (above_on c p f l k d)))
        (same? (node T p) s)

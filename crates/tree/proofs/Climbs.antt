-- Climbs from parent to parent: each used cell of a sound table comes to the root within limit + 1 steps, and on two arrays a
-- climb that comes home is a path. Assumes nothing.
use mathlib.Core.Path.{◌≡◌, refl, sym, ap, ◌∙◌}
use mathlib.Core.Logic.{◌≢◌, ◌⊎◌, inl, inr, ⊎_elim}
use mathlib.Core.Bool.{true, false, true≢false, or-true}
use mathlib.Core.List.{List, [], ◌∷◌}
use Prim.Native.Nat.{ℕ, zero, suc, ◌+◌, ◌≤◌, ◌<◌}
use native.Mathlib.Nat.{eq-or-lt_of_le, le_of_suc-le-suc}
use native.Mathlib.Omega.{arith}
use lib.ListN.{length}
use lib.IntN.{ℤ}
use borrow.Author.Tests.{eq-eqb, ne_eqb, eqb-true}
use Rattle.numbers.specs.Stored.{plus_at}
use Rattle.numbers.proofs.Cases.{same?, some?}
use Rattle.rules.specs.WhatTheIndexDoes.{Profile}
use Rattle.rules.specs.Table.{Cells, next, node}
use Rattle.rules.specs.ASoundTable.{home}
use Rattle.rules.specs.Rendering.{read_cells}
use Rattle.tree.specs.Soundness.{Held, a_leaf, an_inner, row_at, Fruit, Sits, Tree, Deep}
use Rattle.tree.proofs.Steps.{step_next, next_step, last_step}
use Rattle.tree.proofs.Trees.{row_low, used_pos, based_pos, step_used, step_far, one_path}
use Rattle.tree.proofs.Elements.{read_parent}

-- ---- no path to a used cell is longer than a leaf's may be

module _ {P : Profile} {T : Cells} {size : ℕ} (w : Tree P T size) where
  abbrev Used : List ℕ → Type 0
  Used path = 1 ≤ (T (node T path)).parent

  -- No path to a used cell up to n is longer than D.
  abbrev Longest : ℕ → ℕ → Type 0
  Longest n D = (path : List ℕ) → Used path → node T path ≤ n → length path ≤ D

  one_more : (n D : ℕ) → Longest n D → (r : List ℕ) → node T r ≡ suc n → Longest (suc n) (D + length r)
  one_more n D f r e path u h = ⊎_elim
      (λ v. omega (arith, ap length (one_path w path r v e (omega arith))))
      (λ l. omega (arith, f path u (le_of_suc-le-suc l)))
      (eq-or-lt_of_le h)

  longest : (n : ℕ) → (D : ℕ) × Longest n D
  longest zero = (0, λ path u h. absurd (omega (arith, used_pos w (node T path) u)))
  longest (suc n) = let (D, f) = longest n in ⊎_elim
      (λ z. (D, λ path u h. let d : node T path ≢ suc n = (λ v. omega (arith, ap (λ (t : ℕ). (T t).parent) v)) in f path u (omega arith)))
      (λ u. let (r, e) = w.reach (suc n) u in (D + length r, one_more n D f r e))
      (some? (T (suc n)).parent)

  module _ (fruit : Fruit T 0) (deep : Deep P T) where
    -- A used cell is a leaf, or has a child.
    further : (path : List ℕ) {c : ℕ} → Held c (T (node T path)) → Used path → (1 ≤ row_at T path) ⊎ ((a : ℕ) × Used (a ∷ path))
    unfolding node
    further path (a_leaf e z r) u = inl (row_low r)
    further path (an_inner l h z) u =
        let (a, n) = fruit (node T path) (λ e. omega (arith, used_pos w (node T path) u)) u h in
        inr (a, step_used w (next_step T n))

    -- Fewer than k steps further down there is a leaf.
    down : (D : ℕ) → Longest size D → (k : ℕ) (path : List ℕ) → Used path → D < length path + k → length path ≤ suc P.limit
    down D f zero path u l = absurd (omega (arith, f path u (w.inside (node T path) u)))
    down D f (suc k) path u l = ⊎_elim
        (λ h. (deep path h).1)
        (λ x. omega (arith, down D f k (x.0 ∷ path) x.1 (omega arith)))
        (further path (w.sits (node T path) u).held u)

    pub all_within : (path : List ℕ) → 1 ≤ (T (node T path)).parent → length path ≤ suc P.limit
    all_within path u = let (D, f) = longest size in down D f (suc D) path u (omega arith)

-- ---- climbs on two arrays

pub root_home : (check : List ℤ) (k : ℕ) {t : ℕ} → t ≡ 1 → home check k t ≡ true
unfolding home
root_home check zero {t} e = eq-eqb t 1 e
root_home check (suc k) {t} e = rw (eq-eqb t 1 e)

module _ (base check : List ℤ) where
  abbrev T : Cells
  T = read_cells base check

  -- A path of at most k labels to t.
  abbrev pub PathTo : ℕ → ℕ → Type 0
  PathTo k t = (path : List ℕ) × (node T path ≡ t) × (length path ≤ k)

  module _ {P : Profile} {size : ℕ} (w : Tree P T size) where
    pub path_home : (path : List ℕ) {t : ℕ} → node T path ≡ t → 1 ≤ t → (k : ℕ) → length path ≤ k → home check k t ≡ true
    unfolding home node
    path_home [] e h k l = root_home check k (sym e)
    path_home (c ∷ path) e h zero l = absurd (omega arith)
    path_home (c ∷ path) {t} e h (suc k) l =
        let p = last_step T c path e h in
        let v = sym (read_parent base check t (step_far w p)) ∙ p.back in
        rw (v, path_home path refl (based_pos w (node T path) p.based) k (le_of_suc-le-suc l), or-true)

  -- Where element 0 is nobody's parent and each used cell sits below its own, the way back.
  module _ {P : Profile} (header : plus_at check 0 ≡ 0) (sits : (t : ℕ) → 1 ≤ (T t).parent → Sits P T t) where
    no_home : (k : ℕ) → home check k 0 ≡ false
    unfolding home
    no_home zero = refl
    no_home (suc k) = rw header (no_home k)

    home_pos : (k t : ℕ) → home check k t ≡ true → 1 ≤ t
    home_pos k t e = ⊎_elim (λ z. absurd (true≢false (sym e ∙ ap (home check k) z ∙ no_home k))) (λ h. h) (some? t)

    one_down : (k t : ℕ) → 2 ≤ t → home check k (plus_at check t) ≡ true → PathTo k (plus_at check t) → PathTo (suc k) t
    unfolding node
    one_down k t h f (path, e, l) =
        let v = read_parent base check t h in
        let s = sits t (rw v (home_pos k (plus_at check t) f)) in
        (s.code ∷ path, ap (λ x. next T x s.code) (e ∙ sym v) ∙ step_next T s.step, omega arith)

    pub home_path : (k t : ℕ) → home check k t ≡ true → PathTo k t
    unfolding home node
    home_path zero t e = ([], sym (eqb-true t 1 e), omega arith)
    home_path (suc k) t e = ⊎_elim
        (λ v. ([], sym v, omega arith))
        (λ d. let f = rw (ne_eqb t 1 d) at e in one_down k t (omega (arith, home_pos (suc k) t e)) f (home_path k (plus_at check t) f))
        (same? t 1)

-- What holds in every tree: steps lead to used cells by a code, no cell is its own parent, and each cell has one path. Assumes
-- nothing.
use mathlib.Core.Path.{◌≡◌, refl, sym, ap, ap₂, ◌∙◌, subst}
use mathlib.Core.Logic.{◌≢◌, ◌⊎◌, inl, inr, ⊎_elim}
use mathlib.Core.Bool.{true, false, true≢false}
use mathlib.Core.List.{List, [], ◌∷◌, reverse_aux, cons≢nil}
use Prim.Native.Nat.{ℕ, ◌≤◌, ◌<◌}
use native.Mathlib.Omega.{arith}
use lib.ListN.{length, length-reverse_aux}
use borrow.Author.Tests.{leb-true}
use Rattle.numbers.proofs.Cases.{same?, some?}
use Rattle.rules.specs.Ranges.{within}
use Rattle.rules.specs.WhatTheIndexDoes.{Profile, is_row}
use Rattle.rules.specs.Table.{Content, Cells, free, used, next, walk, node}
use Rattle.rules.proofs.Choices.{both}
use Rattle.tree.specs.Soundness.{Step, Held, a_leaf, an_inner, Fruit, Bare, Tree}
use Rattle.tree.specs.Renders.{Tidy}
use Rattle.tree.proofs.Steps.{parent_cell, base_cell, step_next, next_step, last_step, walk_node}
use Rattle.tree.proofs.UsedCells.{is_used, by_use}
use Rattle.tree.proofs.TidyTables.{tidy_past}

-- ---- what a cell holds

pub row_low : {n : ℕ} → is_row n ≡ true → 1 ≤ n
unfolding is_row within
row_low {n} e = leb-true 1 n (both _ _ e).0

module _ {c : ℕ} {x : Content} where
  pub held_inner : Held c x → 1 ≤ x.base → x.row ≡ 0
  held_inner (a_leaf e z r) h = absurd (omega arith)
  held_inner (an_inner l b z) h = z

  pub held_leaf : Held c x → 1 ≤ x.row → (c ≡ 1) × (x.base ≡ 0) × (is_row x.row ≡ true)
  held_leaf (a_leaf e z r) h = (e, z, r)
  held_leaf (an_inner l b z) h = absurd (omega arith)

  pub held_onward : Held c x → 2 ≤ c → 1 ≤ x.base
  held_onward (a_leaf e z r) h = absurd (omega arith)
  held_onward (an_inner l b z) h = b

  pub held_code : Held c x → 1 ≤ x.base → 2 ≤ c
  held_code (a_leaf e z r) h = absurd (omega arith)
  held_code (an_inner l b z) h = l

  pub held_end : Held c x → c ≡ 1 → 1 ≤ x.row
  held_end (a_leaf e z r) h = row_low r
  held_end (an_inner l b z) h = absurd (omega arith)

-- x has a child after all.
pub fruit_whole : (T : Cells) (x c : ℕ) → 1 ≤ next T x c → Fruit T x → Fruit T 0
fruit_whole T x c n f u d h k = ⊎_elim (λ e. (c, rw e n)) (λ e. f u e h k) (same? u x)

module _ {P : Profile} {T : Cells} {size : ℕ} (w : Tree P T size) where
  -- ---- cells

  pub zero_parent : (T 0).parent ≡ 0
  zero_parent = ap (λ x. x.parent) w.nowhere

  pub used_pos : (t : ℕ) → 1 ≤ (T t).parent → 1 ≤ t
  used_pos = parent_cell T w.nowhere

  pub based_pos : (s : ℕ) → 1 ≤ (T s).base → 1 ≤ s
  based_pos = base_cell T w.nowhere

  -- A cell that holds something is the root or is used.
  held_used : (t : ℕ) → t ≢ 1 → T t ≢ free → 1 ≤ (T t).parent
  held_used t d f = ⊎_elim (λ z. absurd (f (w.blank t d z))) (λ h. h) (some? (T t).parent)

  pub based_used : (s : ℕ) → 1 ≤ (T s).base → (s ≡ 1) ⊎ (1 ≤ (T s).parent)
  based_used s h = ⊎_elim inl (λ d. inr (held_used s d (λ e. omega (arith, ap (λ x. x.base) e)))) (same? s 1)

  pub based_inside : (s : ℕ) → 1 ≤ (T s).base → s ≤ size
  based_inside s h = ⊎_elim (λ e. omega (arith, w.some)) (w.inside s) (based_used s h)

  pub row_used : (t : ℕ) → 1 ≤ (T t).row → 1 ≤ (T t).parent
  row_used t h = held_used t (λ e. omega (arith, w.root_row, ap (λ (x : ℕ). (T x).row) e)) (λ e. omega (arith, ap (λ x. x.row) e))

  pub row_pos : (t : ℕ) → 1 ≤ (T t).row → 1 ≤ t
  row_pos t h = used_pos t (row_used t h)

  -- The size may be any that holds the used cells.
  pub tree_sized : (n : ℕ) → 1 ≤ n → ((t : ℕ) → 1 ≤ (T t).parent → t ≤ n) → Tree P T n
  tree_sized n some inside = record {
    nowhere = w.nowhere;
    root_parent = w.root_parent;
    root_base = w.root_base;
    root_row = w.root_row;
    blank = w.blank;
    sits = w.sits;
    reach = w.reach;
    some = some;
    inside = inside;
  }

  pub tree_tidy : Tidy (record { cells = T; size = size })
  tree_tidy = record {
    nowhere = w.nowhere;
    root_parent = w.root_parent;
    blank = w.blank;
    some = w.some;
    inside = w.inside;
    one_kind = λ t h. (held_leaf (w.sits t (row_used t h)).held h).1;
  }

  pub past_unused : (t : ℕ) → size < t → used T t ≡ false
  past_unused = tidy_past tree_tidy

  -- An inner cell has no row.
  pub based_row : (s : ℕ) → 1 ≤ (T s).base → (T s).row ≡ 0
  based_row s h = ⊎_elim (λ e. rw e w.root_row) (λ u. held_inner (w.sits s u).held h) (based_used s h)

  -- ---- steps

  pub step_used : {s c t : ℕ} → Step T s c t → 1 ≤ (T t).parent
  step_used {s} p = omega (arith, p.back, based_pos s p.based)

  -- The code by which a cell sits is the only one that leads to it.
  step_sits : {s c t : ℕ} (p : Step T s c t) → (w.sits t (step_used p)).code ≡ c
  step_sits {s} {c} {t} p = omega (arith, p.at, (w.sits t (step_used p)).step.at, ap (λ (x : ℕ). (T x).base) p.back)

  pub step_low : {s c t : ℕ} → Step T s c t → 1 ≤ c
  step_low p = rw (step_sits p) at (w.sits _ (step_used p)).low

  pub step_high : {s c t : ℕ} → Step T s c t → c ≤ P.greatest
  step_high p = rw (step_sits p) at (w.sits _ (step_used p)).high

  pub step_held : {s c t : ℕ} → Step T s c t → Held c (T t)
  step_held {t = t} p = subst (λ k. Held k (T t)) (step_sits p) (w.sits _ (step_used p)).held

  pub step_far : {s c t : ℕ} → Step T s c t → 2 ≤ t
  step_far p = omega (arith, p.based, p.at, step_low p)

  -- ---- paths

  -- A cell has one path only.
  pub one_path : (r r' : List ℕ) {t : ℕ} → node T r ≡ t → node T r' ≡ t → 1 ≤ t → r ≡ r'
  unfolding node
  one_path [] [] e e' h = refl
  one_path [] (c ∷ r) e e' h = absurd (omega (arith, step_far (last_step T c r e' h)))
  one_path (c ∷ r) [] e e' h = absurd (omega (arith, step_far (last_step T c r e h)))
  one_path (c ∷ r) (c' ∷ r') e e' h =
      let p = last_step T c r e h in
      let p' = last_step T c' r' e' h in
      let f = one_path r r' {t = node T r} refl (sym p'.back ∙ p.back) (based_pos (node T r) p.based) in
      let k : c ≡ c' = omega (arith, p.at, p'.at, ap (λ x. (T (node T x)).base) f) in
      ap₂ ◌∷◌ k f

  -- Every used cell has one.
  pub used_path : (t : ℕ) → used T t ≡ true → (path : List ℕ) × (node T path ≡ t)
  unfolding node
  used_path t u = by_use T t (λ e. ([], sym e)) (λ d. w.reach t) (λ f. absurd (true≢false (sym u ∙ f)))

  pub path_of : (s : ℕ) → 1 ≤ (T s).base → (path : List ℕ) × (node T path ≡ s)
  path_of s h = used_path s (is_used T s (based_used s h))

  -- A walk that leads to a cell begins at one, and with a label at an inner one.
  pub walk_pos : (s : ℕ) (cs : List ℕ) → 1 ≤ walk T s cs → 1 ≤ s
  unfolding walk
  walk_pos s [] h = h
  walk_pos s (c ∷ cs) h = based_pos s (next_step T (walk_pos (next T s c) cs h)).based

  walk_based : (s c : ℕ) (cs : List ℕ) → 1 ≤ walk T s (c ∷ cs) → 1 ≤ (T s).base
  unfolding walk
  walk_based s c cs h = (next_step T {s = s} {c = c} (walk_pos (next T s c) cs h)).based

  -- No labels lead from a cell back to it.
  pub no_ring : (cs : List ℕ) (t : ℕ) → 1 ≤ t → walk T t cs ≡ t → cs ≡ []
  no_ring [] t h k = refl
  no_ring (c ∷ cs) t h k =
      let (path, e) = path_of t (walk_based t c cs (rw k h)) in
      let f : node T (reverse_aux (c ∷ cs) path) ≡ t = sym (walk_node T (c ∷ cs) path) ∙ ap (λ (x : ℕ). walk T x (c ∷ cs)) e ∙ k in
      absurd (omega (arith, length-reverse_aux (c ∷ cs) path, ap (λ (r : List ℕ). length r) (one_path (reverse_aux (c ∷ cs) path) path f e h)))

  pub no_loop : (t : ℕ) → 1 ≤ t → (T t).parent ≢ t
  unfolding walk
  no_loop t h u =
      let g = w.sits t (rw u h) in
      let p : Step T t g.code t = rw u at g.step in
      absurd (cons≢nil (no_ring (g.code ∷ []) t h (step_next T p)))

  -- ---- children

  pub fruit_weak : (x : ℕ) → Fruit T 0 → Fruit T x
  fruit_weak x f u d h k = f u (λ e. omega (arith, used_pos u h)) h k

  -- Where a path leads on from the root, the root has a child.
  first_step : (path : List ℕ) (c : ℕ) → 1 ≤ node T (c ∷ path) → (a : ℕ) × (1 ≤ next T 1 a)
  unfolding node
  first_step [] c h = (c, h)
  first_step (d ∷ path) c h = first_step path d (based_pos (node T (d ∷ path)) (next_step T h).based)

  pub bare_path : (path : List ℕ) (c : ℕ) → 1 ≤ node T (c ∷ path) → Bare T
  bare_path path c h none = let (a, k) = first_step path c h in absurd (omega (arith, none a, k))

  -- Where a label leads on, the root has a child.
  pub bare_step : {s c t : ℕ} → Step T s c t → Bare T
  unfolding node
  bare_step {s} {c} p = let (path, e) = path_of s p.based in bare_path path c (rw (e, step_next T p) (omega (arith, step_far p)))

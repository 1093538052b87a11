-- Two tables that differ in one cell: free in T, and in N a cell without children. An insertion goes from T to N, a deletion from
-- N to T. Assumes nothing.
use mathlib.Core.Path.{◌≡◌, refl, sym, ap, ◌∙◌, fun_ext}
use mathlib.Core.Logic.{◌≢◌, ◌⊎◌, inl, inr, ⊎_elim}
use mathlib.Core.List.{List, [], ◌∷◌}
use Prim.Native.Nat.{ℕ, ◌≤◌}
use native.Mathlib.Omega.{arith}
use borrow.Author.Tests.{eq-eqb, ne_eqb}
use Rattle.numbers.proofs.Cases.{same?}
use Rattle.rules.specs.WhatTheIndexDoes.{Profile}
use Rattle.rules.specs.Table.{Content, Cells, free, update, next, node}
use Rattle.tree.specs.Soundness.{Step, row_at, Fruit, Sits, Tree}
use Rattle.tree.proofs.Steps.{parent_cell, base_cell, step_next, step?, next_step, next_baseless}
use Rattle.tree.proofs.Trees.{path_of}

module _ (T : Cells) (t : ℕ) (x : Content) where
  pub update_at : update T t x t ≡ x
  unfolding update
  update_at = rw (eq-eqb t t refl)

  pub update_off : (u : ℕ) → u ≢ t → update T t x u ≡ T u
  unfolding update
  update_off u d = rw (ne_eqb _ _ d)

  -- Cells that hold x in t, and what T holds elsewhere.
  pub update_is : {N : Cells} → N t ≡ x → ((u : ℕ) → u ≢ t → N u ≡ T u) → N ≡ update T t x
  update_is e f = fun_ext (λ u. ⊎_elim (λ (o : u ≡ t). rw o (e ∙ sym update_at)) (λ d. f u d ∙ sym (update_off u d)) (same? u t))

-- N is T with one cell t more.
pub record OneMore (T N : Cells) (t : ℕ) : Type 0 where
  pub far : 2 ≤ t
  pub same : (u : ℕ) → u ≢ t → N u ≡ T u
  pub gone : T t ≡ free
  pub nowhere : T 0 ≡ free
  pub alone : (u : ℕ) → (N u).parent ≢ t

module _ {T N : Cells} {t : ℕ} (o : OneMore T N t) where
  -- ---- steps

  based_off : (y : ℕ) → 1 ≤ (T y).base → y ≢ t
  based_off y h e = omega (arith, ap (λ x. x.base) o.gone, ap (λ (x : ℕ). (T x).base) e)

  used_off : (u : ℕ) → 1 ≤ (T u).parent → u ≢ t
  used_off u h e = omega (arith, ap (λ (x : ℕ). (T x).parent) e, ap (λ x. x.parent) o.gone)

  step_off : {y c u : ℕ} → Step T y c u → u ≢ t
  step_off {y} {c} {u} p = used_off u (rw p.back (base_cell T o.nowhere y p.based))

  step_more : {y c u : ℕ} → Step T y c u → Step N y c u
  step_more {y} {c} {u} p =
      let e = o.same y (based_off y p.based) in
      record { based = rw e p.based; at = rw e p.at; back = rw (o.same u (step_off p)) p.back }

  step_less : {y c u : ℕ} → u ≢ t → Step N y c u → Step T y c u
  step_less {y} {c} {u} d p =
      let e = o.same y (λ v. o.alone u (p.back ∙ v)) in
      record { based = rw e at p.based; at = rw e at p.at; back = rw (o.same u d) at p.back }

  -- ---- paths

  -- A cell of N is the same cell of T, or the one more.
  abbrev pub Apart : ℕ → ℕ → Type 0
  Apart n m = ((n ≡ m) × (n ≢ t)) ⊎ ((n ≡ t) × (m ≡ 0))

  next_apart : (y c : ℕ) → Apart (next N y c) (next T y c)
  next_apart y c = go (step? T y c) (step? N y c)
    where
      go : Step T y c (next T y c) ⊎ (next T y c ≡ 0) → Step N y c (next N y c) ⊎ (next N y c ≡ 0) → Apart (next N y c) (next T y c)
      go (inl p) k = inl (step_next N (step_more p), λ e. step_off p (sym (step_next N (step_more p)) ∙ e))
      go (inr e) (inr f) = inl (f ∙ sym e, λ g. omega (arith, o.far))
      go (inr e) (inl p) = ⊎_elim (λ f. inr (f, e)) (λ d. inl (sym (step_next T (step_less d p)), d)) (same? (next N y c) t)

  next_alone : (c : ℕ) → next N t c ≡ 0
  next_alone c = ⊎_elim (λ p. absurd (o.alone (next N t c) p.back)) (λ e. e) (step? N t c)

  pub node_apart : (path : List ℕ) → Apart (node N path) (node T path)
  unfolding node
  node_apart [] = inl (refl, λ e. omega (arith, o.far))
  node_apart (c ∷ path) = go (node_apart path)
    where
      go : Apart (node N path) (node T path) → Apart (next N (node N path) c) (next T (node T path) c)
      go (inl (e, d)) = rw e (next_apart (node T path) c)
      go (inr (e, f)) = rw (e, f, next_alone, next_baseless T 0 c (ap (λ x. x.base) o.nowhere)) (inl (refl, λ g. omega (arith, o.far)))

  pub path_more : (path : List ℕ) {u : ℕ} → node T path ≡ u → 1 ≤ u → node N path ≡ u
  path_more path e h = ⊎_elim (λ (f, d). f ∙ e) (λ (f, z). absurd (omega arith)) (node_apart path)

  pub path_less : (path : List ℕ) {u : ℕ} → node N path ≡ u → u ≢ t → node T path ≡ u
  path_less path e d = ⊎_elim (λ (f, n). sym f ∙ e) (λ (f, z). absurd (d (sym e ∙ f))) (node_apart path)

  -- ---- rows

  pub row_other : (path : List ℕ) → node N path ≢ t → row_at N path ≡ row_at T path
  row_other path d = ⊎_elim
      (λ (e, n). ap (λ x. x.row) (o.same (node N path) n) ∙ ap (λ (u : ℕ). (T u).row) e) (λ (e, z). absurd (d e)) (node_apart path)

  pub row_gone : (path : List ℕ) → node N path ≡ t → row_at T path ≡ 0
  row_gone path e = ⊎_elim (λ (f, n). absurd (n e)) (λ (f, z). ap (λ (u : ℕ). (T u).row) z ∙ ap (λ x. x.row) o.nowhere) (node_apart path)

  -- An inner cell more, or less, changes no row.
  pub row_inner : (N t).row ≡ 0 → (path : List ℕ) → row_at N path ≡ row_at T path
  row_inner z path = ⊎_elim (λ e. ap (λ (u : ℕ). (N u).row) e ∙ z ∙ sym (row_gone path e)) (row_other path) (same? (node N path) t)

  -- ---- children

  pub fruit_more : (s c : ℕ) → Step N s c t → Fruit T s → Fruit N t
  fruit_more s c p f u d h k = ⊎_elim own more (same? u s)
    where
      own : u ≡ s → (a : ℕ) × (1 ≤ next N u a)
      own e = (c, rw (e, step_next N p) (omega (arith, o.far)))

      more : u ≢ s → (a : ℕ) × (1 ≤ next N u a)
      more e =
          let (a, n) = f u e (rw (o.same u d) at h) (rw (o.same u d) at k) in
          (a, rw (step_next N (step_more (next_step T n))) n)

  pub fruit_less : Fruit N t → Fruit T (N t).parent
  fruit_less f u d h k =
      let v = based_off u k in
      let (a, n) = f u v (rw (o.same u v) h) (rw (o.same u v) k) in
      let p = next_step N n in
      (a, rw (step_next T (step_less (λ y. d (sym p.back ∙ ap (λ (x : ℕ). (N x).parent) y)) p)) n)

  -- ---- the tree

  -- A fact of t and of every other cell.
  each : {F : ℕ → Type 0} → F t → ((u : ℕ) → u ≢ t → F u) → (u : ℕ) → F u
  each {F} a f u = ⊎_elim (λ e. rw e a) (f u) (same? u t)

  root_same : N 1 ≡ T 1
  root_same = o.same 1 (λ e. omega (arith, o.far))

  module _ {P : Profile} where
    sits_more : (u : ℕ) → u ≢ t → Sits P T u → Sits P N u
    sits_more u d k =
        let e = o.same u d in
        record { code = k.code; step = rw e (step_more k.step); low = k.low; high = k.high; held = rw e k.held }

    sits_less : (u : ℕ) → u ≢ t → Sits P N u → Sits P T u
    sits_less u d k =
        let e = sym (o.same u d) in
        record { code = k.code; step = rw e (step_less d k.step); low = k.low; high = k.high; held = rw e k.held }

    module _ {size : ℕ} (size' : ℕ) (wider : size ≤ size') (below : t ≤ size') (st : Sits P N t) (w : Tree P T size) where
      parent_based : 1 ≤ (T (N t).parent).base
      parent_based = rw (o.same (N t).parent (o.alone t)) at st.step.based

      more_used : 1 ≤ (N t).parent
      more_used = base_cell T o.nowhere (N t).parent parent_based

      reach_more : (path : List ℕ) × (node N path ≡ t)
      unfolding node
      reach_more =
          let (path, e) = path_of w (N t).parent parent_based in
          (st.code ∷ path, rw (path_more path e more_used) (step_next N st.step))

      pub tree_more : Tree P N size'
      tree_more = record {
        nowhere = o.same 0 (λ e. omega (arith, o.far)) ∙ o.nowhere;
        root_parent = rw root_same w.root_parent;
        root_base = rw root_same w.root_base;
        root_row = rw root_same w.root_row;
        blank = each (λ d z. absurd (omega (arith, more_used))) (λ u n d z. o.same u n ∙ w.blank u d (rw (o.same u n) at z));
        sits = each (λ h. st) (λ u n h. sits_more u n (w.sits u (rw (o.same u n) at h)));
        reach = each (λ h. reach_more) (λ u n h.
            let k : 1 ≤ (T u).parent = rw (o.same u n) at h in
            let (path, e) = w.reach u k in (path, path_more path e (parent_cell T o.nowhere u k)));
        some = omega (arith, w.some);
        inside = each (λ h. below) (λ u n h. omega (arith, w.inside u (rw (o.same u n) at h), wider));
      }

    pub tree_less : {size : ℕ} → Tree P N size → Tree P T size
    tree_less w = record {
      nowhere = o.nowhere;
      root_parent = rw (← root_same) w.root_parent;
      root_base = rw (← root_same) w.root_base;
      root_row = rw (← root_same) w.root_row;
      blank = each (λ d z. o.gone) (λ u n d z. sym (o.same u n) ∙ w.blank u d (rw (o.same u n) z));
      sits = λ u h. let n = used_off u h in sits_less u n (w.sits u (rw (o.same u n) h));
      reach = λ u h. let n = used_off u h in let (path, e) = w.reach u (rw (o.same u n) h) in (path, path_less path e n);
      some = w.some;
      inside = λ u h. w.inside u (rw (o.same u (used_off u h)) h);
    }

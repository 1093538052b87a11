-- A relocation keeps the tree, every lookup and soundness. Assumes nothing.
use mathlib.Core.Path.{◌≡◌, sym, ap, ◌∙◌, subst}
use mathlib.Core.Logic.{◌≢◌, ⊎_elim}
use mathlib.Core.List.{List, reverse}
use Prim.Native.Nat.{ℕ, ◌+◌, ◌-◌, ◌≤◌}
use native.Mathlib.Omega.{arith}
use Rattle.numbers.proofs.Cases.{same?, some?}
use Rattle.rules.specs.WhatTheIndexDoes.{Profile, labels}
use Rattle.rules.specs.Table.{Cells, Table, free, next, lookup}
use Rattle.rules.specs.Insertion.{renamed, relocate}
use Rattle.tree.specs.Soundness.{Held, a_leaf, an_inner, Fruit, Sits, Tree, Sound}
use Rattle.tree.specs.Moved.{Fit}
use Rattle.tree.proofs.Steps.{next_step, lookup_same}
use Rattle.tree.proofs.Trees.{bare_step}
use Rattle.tree.proofs.Relocation.{M, ρ, base_to, s_pos, child_far, to_child, to_other, used_kept, low_kept, parent_kept, to_zero, to_one, to_pos, moved_at, moved_from, to_same, base_other, base_after, base_before, step_to, next_moved, node_moved, row_moved}

module _ {P : Profile} {T : Cells} {size : ℕ} (w : Tree P T size) {s b q : ℕ} (m : Fit T s b q) where
  -- The cell t of before is the cell u afterwards.
  record Was (u : ℕ) : Type 0 where
    before : ℕ
    used : 1 ≤ (T before).parent
    place : ρ w m before ≡ u
    content : M w m u ≡ renamed T s b q before

  was : (u : ℕ) → 1 ≤ (M w m u).parent → Was u
  unfolding renamed
  was u h = ⊎_elim (λ (t, g, e). at t e (rw (← e) (moved_at w m t g))) (λ e. absurd (omega (arith, ap (λ x. x.parent) e))) (moved_from w m u)
    where
      at : (t : ℕ) → ρ w m t ≡ u → M w m u ≡ renamed T s b q t → Was u
      at t e f = ⊎_elim
          (λ z. absurd (omega (arith, ap (λ x. x.parent) f, ap (ρ w m) z, to_zero w m)))
          (λ k. record { before = t; used = k; place = e; content = f }) (some? (T t).parent)

  held_moved : (c t : ℕ) → Held c (T t) → Held c (renamed T s b q t)
  unfolding renamed
  held_moved c t (a_leaf e z h) = a_leaf e (⊎_elim (λ f. f) (λ k. absurd (omega (arith, base_before w m t k))) (some? (base_to w m t))) h
  held_moved c t (an_inner l h z) = an_inner l (base_after w m t h) z

  sits_moved : (u : ℕ) → 1 ≤ (M w m u).parent → Sits P (M w m) u
  unfolding renamed
  sits_moved u h = go (was u h)
    where
      go : Was u → Sits P (M w m) u
      go r =
          let g = w.sits r.before r.used in
          record {
            code = g.code;
            step = rw (r.content, ← r.place) (step_to w m g.step);
            low = g.low;
            high = g.high;
            held = rw r.content (held_moved g.code r.before g.held);
          }

  renamed_free : (t : ℕ) → T t ≡ free → t ≢ s → renamed T s b q t ≡ free
  unfolding renamed
  renamed_free t x d = rw (base_other w m t d, x, to_zero w m)

  root_at : M w m 1 ≡ renamed T s b q 1
  root_at = rw (to_one w m) at (moved_at w m 1 (low_kept w m 1 (omega arith)))

  blank_moved : (u : ℕ) → u ≢ 1 → (M w m u).parent ≡ 0 → M w m u ≡ free
  unfolding renamed
  blank_moved u d z = ⊎_elim (λ (t, g, e). at t e (rw (← e) (moved_at w m t g))) (λ e. e) (moved_from w m u)
    where
      at : (t : ℕ) → ρ w m t ≡ u → M w m u ≡ renamed T s b q t → M w m u ≡ free
      at t e f =
          let v : ρ w m (T t).parent ≡ ρ w m 0 = sym (ap (λ x. x.parent) f) ∙ z ∙ sym (to_zero w m) in
          let n = to_same w m (T t).parent 0 (parent_kept w m t) (low_kept w m 0 (omega arith)) v in
          let x : T t ≡ free = w.blank t (λ v. d (sym e ∙ ap (ρ w m) v ∙ to_one w m)) n in
          f ∙ renamed_free t x (λ v. omega (arith, ap (λ x. x.base) x, m.old, m.held, ap (λ (x : ℕ). (T x).base) v))

  pub tree_moved : (size' : ℕ) → size ≤ size' → ((c : ℕ) → (T (b + c)).parent ≡ s → q + c ≤ size') → Tree P (M w m) size'
  unfolding renamed
  tree_moved size' big holds = record {
    nowhere = rw (to_zero w m) at (moved_at w m 0 (low_kept w m 0 (omega arith))) ∙ renamed_free 0 w.nowhere (λ e. omega (arith, s_pos w m));
    root_parent = rw (root_at, w.root_parent, to_zero w m);
    root_base = rw root_at (base_after w m 1 w.root_base);
    root_row = rw root_at w.root_row;
    blank = blank_moved;
    sits = sits_moved;
    reach = λ u h. let r = was u h in let (p, e) = w.reach r.before r.used in (p, node_moved w m p ∙ ap (ρ w m) e ∙ r.place);
    some = omega (arith, w.some);
    inside = λ u h. inside u (was u h);
  }
    where
      inside : (u : ℕ) → Was u → u ≤ size'
      inside u r = ⊎_elim
          (λ e. let z : b + (r.before - b) ≡ r.before = omega (arith, child_far w m r.before e) in
          omega (arith, holds (r.before - b) (rw z e), to_child w m r.before e, r.place))
          (λ d. omega (arith, w.inside r.before r.used, to_other w m r.before d, r.place, big)) (same? (T r.before).parent s)

  to_next : (t c : ℕ) → 1 ≤ (T t).parent → 1 ≤ next T t c → 1 ≤ next (M w m) (ρ w m t) c
  to_next t c u n = rw (next_moved w m t c (used_kept w m t u)) (to_pos w m (next T t c) n)

  pub fruit_moved : Fruit T 0 → Fruit (M w m) 0
  unfolding renamed
  fruit_moved f u d h k =
      let r = was u h in
      let ne : r.before ≢ 0 = (λ v. d (sym r.place ∙ ap (ρ w m) v ∙ to_zero w m)) in
      let (c, n) = f r.before ne r.used (base_before w m r.before (rw r.content at k)) in
      (c, subst (λ (x : ℕ). 1 ≤ next (M w m) x c) r.place (to_next r.before c r.used n))

-- ---- what the laws say of `relocate`

module _ {P : Profile} {T : Cells} {size : ℕ} (w : Tree P T size) (s q : ℕ) (m : Fit T s (T s).base q) where
  pub relocate_tree : (size' : ℕ) → size ≤ size' → ((c : ℕ) → (T ((T s).base + c)).parent ≡ s → q + c ≤ size') → Tree P (relocate T s q) size'
  unfolding relocate
  relocate_tree = tree_moved w m

  pub relocate_lookup : (key : List ℕ) → lookup P (relocate T s q) key ≡ lookup P T key
  unfolding relocate
  relocate_lookup key = lookup_same T (M w m) P key (row_moved w m (reverse (labels P key)))

-- The table stays sound, if s has a child: a root without children has to keep base 1.
pub relocate_sound : {P : Profile} {t : Table} → Sound P t → (s q : ℕ) → Fit t.cells s (t.cells s).base q → (c : ℕ) → 1 ≤ next t.cells s c →
    (size' : ℕ) → t.size ≤ size' → ((d : ℕ) → (t.cells ((t.cells s).base + d)).parent ≡ s → q + d ≤ size') →
    Sound P (record { cells = relocate t.cells s q; size = size' })
unfolding relocate
relocate_sound {P} {t} w s q m c n size' big holds =
    let v = tree_moved w.tree m size' big holds in
    record {
      tree = v;
      fruit = fruit_moved w.tree m w.fruit;
      bare = bare_step v (step_to w.tree m (next_step t.cells n));
      deep = λ path h. w.deep path (rw (row_moved w.tree m path) at h);
    }

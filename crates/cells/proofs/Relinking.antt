-- A cell taken out of the chain, or put into it: the link before it is rewritten, and no other. Assumes nothing.
use mathlib.Core.Path.{◌≡◌, refl, sym, ap, ◌∙◌}
use mathlib.Core.Logic.{◌≢◌, ⊎_elim}
use mathlib.Core.Bool.{Bool, true, false, not, true≢false}
use mathlib.Core.List.{List}
use Prim.Native.Nat.{ℕ, ◌≤◌, ◌<◌}
use native.Mathlib.Omega.{arith}
use lib.ListN.{length, set, length-set}
use lib.IntN.{ℤ}
use borrow.Author.Tests.{lt-leb, not-true}
use Rattle.numbers.specs.Stored.{positive, negative, minus_at}
use Rattle.numbers.proofs.Cases.{lt_or_ge, same?}
use Rattle.rules.specs.Table.{Cells, Table, free, inner, update, used}
use Rattle.rules.specs.Rendering.{next_free, base_holds, base_of, check_of}
use Rattle.tree.specs.Renders.{Tidy}
use Rattle.tree.proofs.UsedCells.{parent_used, parentless_unused, unused_other, unused_parent, by_use}
use Rattle.tree.proofs.OneCell.{update_at, update_off}
use Rattle.placing.specs.Search.{Next, Walks, Before, Precedes}
use Rattle.cells.specs.Edits.{Shown, celled, holding}
use Rattle.cells.proofs.NextFree.{unused, next_one, next_free_lem}
use Rattle.cells.proofs.Shown.{shown_lengths, shown_long, shown_small, shown_link, shown_chain, base_element, check_element}
use Rattle.cells.proofs.Holding.{base_held, base_other, base_kept, check_held, tidy_holding}
use Rattle.cells.proofs.Stores.{Holds, checks, check_linked, stored, show_again}

-- ---- a cell that is free in one table and used in the other

-- The cell u is free in A and used in B; the other cells hold the same. p is the last free cell below u, or the header.
record Freed (t : Table) (A B : Cells) (u p : ℕ) : Type 0 where
  below : p < u
  inside : u ≤ t.size
  vacant : used A u ≡ false
  taken : used B u ≡ true
  same : (v : ℕ) → v ≢ u → A v ≡ B v
  on : used A p ≡ false
  gap : (v : ℕ) → p < v → v < u → unused (celled t A) v ≡ false

used_same : (A B : Cells) (v : ℕ) → A v ≡ B v → used A v ≡ used B v
unfolding used
used_same A B v e = rw e

module _ {t : Table} {A B : Cells} {u p : ℕ} (f : Freed t A B u p) where
  abbrev m : ℕ → Bool
  m = unused (celled t A)

  abbrev n : ℕ → Bool
  n = unused (celled t B)

  other : (v : ℕ) → v ≢ u → m v ≡ n v
  other v d = ap not (used_same A B v (f.same v d))

  fewer : (v : ℕ) → m v ≡ false → n v ≡ false
  fewer v e = ⊎_elim (λ (o : v ≡ u). rw o (ap not f.taken)) (λ d. sym (other v d) ∙ e) (same? v u)

  next_over : {v : ℕ} → Next m t.size u v → Next n t.size p v
  next_over {v} w = record {
    after = omega (arith, f.below, w.after);
    within = w.within;
    none = λ i l k. ⊎_elim
        (λ h. fewer i (f.gap i l h))
        (λ h. ⊎_elim (λ (e : i ≡ u). rw e (ap not f.taken)) (λ d. fewer i (w.none i (omega arith) k)) (same? i u))
        (lt_or_ge i u);
    named = λ h. sym (other v (λ e. omega (arith, w.after))) ∙ w.named h;
  }

  -- p lies between, or i lies in the gap.
  not_next : {i v : ℕ} → i ≢ p → m i ≡ true → Next m t.size i v → v ≢ u
  not_next {i} d on w e = ⊎_elim
      (λ l. true≢false (sym (ap not f.on) ∙ w.none p l (omega (arith, f.below))))
      (λ l. true≢false (sym on ∙ f.gap i (omega arith) (omega (arith, w.after))))
      (lt_or_ge i p)

  next_other : {i v : ℕ} → i ≢ p → m i ≡ true → Next m t.size i v → Next n t.size i v
  next_other {v = v} d on w = record {
    after = w.after;
    within = w.within;
    none = λ k l h. fewer k (w.none k l h);
    named = λ h. sym (other v (not_next d on w)) ∙ w.named h;
  }

  -- ---- the links

  link_before : next_free (celled t A) p ≡ u
  link_before = next_one (next_free_lem (celled t A) p (omega (arith, f.below, f.inside)))
      (record { after = f.below; within = omega (arith, f.inside); none = f.gap; named = λ h. ap not f.vacant })

  link_over : next_free (celled t B) p ≡ next_free (celled t A) u
  link_over = next_one (next_free_lem (celled t B) p (omega (arith, f.below, f.inside))) (next_over (next_free_lem (celled t A) u f.inside))

  link_other : (i : ℕ) → i ≢ p → used A i ≡ false → i ≤ t.size → next_free (celled t B) i ≡ next_free (celled t A) i
  link_other i d e h = next_one (next_free_lem (celled t B) i h) (next_other d (ap not e) (next_free_lem (celled t A) i h))

  check_other : (i : ℕ) → i ≢ u → i ≢ p → checks (celled t B) i ≡ checks (celled t A) i
  unfolding check_of
  check_other i d o = let e = used_same A B i (f.same i d) in by_use A i
      (λ (h : i ≡ 1). rw h)
      (λ r h. rw (← e, parent_used A i h, f.same i d))
      (λ r. ⊎_elim (λ l. rw (← e, r, lt-leb i t.size l)) (λ l. rw (← e, r, link_other i o r l)) (lt_or_ge t.size i))

-- ---- the walk to a cell

module _ {base check : List ℤ} {t : Table} (s : Shown base check t) where
  pub link_small : (v : ℕ) → unused t v ≡ true → v ≤ t.size → minus_at check v ≤ 65536
  link_small v e h = omega (arith, ((shown_chain s).link v h e).within, shown_small s)

  module _ (u : ℕ) (inside : u ≤ t.size) where
    pub shown_walks : 1 ≤ u → Walks check u
    shown_walks low = record { cells = unused t; size = t.size; chain = shown_chain s; some = low; within = omega arith }

    pub shown_before : {p : ℕ} → Precedes check u p → Before (unused t) check u p
    shown_before f = f (unused t) t.size (shown_chain s) (omega arith)

-- ---- the arrays

module _ {base check : List ℤ} {t : Table} (s : Shown base check t) {u p : ℕ} (b : Before (unused t) check u p) (inside : u ≤ t.size) where
  abbrev T : Cells
  T = t.cells

  p_free : used t.cells p ≡ false
  p_free = not-true _ b.on

  p_inside : p ≤ t.size
  p_inside = omega (arith, b.below)

  passed : (v : ℕ) → p < v → v < u → unused t v ≡ false
  passed v l k = ((shown_chain s).link p p_inside b.on).none v l (omega (arith, b.reach))

  -- Another table of the size, by a store at p and one at u.
  relinked : (N : Cells) {base' : List ℤ} {y z : ℤ} → Tidy (celled t N) → length base' ≡ length base → Holds base' (base_of (celled t N)) →
      y ≡ checks (celled t N) p → z ≡ checks (celled t N) u → ((i : ℕ) → i ≢ u → i ≢ p → checks t i ≡ checks (celled t N) i) →
      Shown base' (set (set check p y) u z) (celled t N)
  relinked N {y = y} {z} tidy l bases before here other =
      let long : u < length check = omega (arith, shown_long s, shown_lengths s) in
      show_again s (celled t N) l (length-set (set check p y) u z ∙ length-set check p y) tidy s.fits bases (λ i.
      stored (set check p y) u i (simp length-set long) (λ (e : i ≡ u). rw e here) (λ d.
      stored check p i (omega (arith, b.below)) (λ (e : i ≡ p). rw e before) (λ o. check_element s i ∙ other i d o)))

  module _ (far : 2 ≤ u) (h : 1 ≤ (t.cells u).parent) where
    abbrev A : Cells
    A = update t.cells u free

    freed : Freed t A T u p
    freed = record {
      below = b.below;
      inside = inside;
      vacant = parentless_unused A u (λ e. omega arith) (ap (λ x. x.parent) (update_at T u free));
      taken = parent_used T u h;
      same = update_off T u free;
      on = used_same A T p (update_off T u free p (λ e. omega (arith, b.below))) ∙ p_free;
      gap = λ v l k. ap not (used_same A T v (update_off T u free v (λ e. omega arith))) ∙ passed v l k;
    }

    base_freed : Holds (set base u (positive 0)) (base_of (holding t u free))
    unfolding base_holds
    base_freed i = stored base u i (omega (arith, shown_long s))
        (λ (e : i ≡ u). rw e (sym (base_held t u free (omega arith))))
        (λ d. base_element s i ∙ sym (base_other t u free i d))

    -- The used cell u becomes free.
    pub put_in : Shown (set base u (positive 0)) (set (set check p (negative u)) u (negative (minus_at check p))) (holding t u free)
    put_in = relinked A
        (tidy_holding s.table u free (omega arith) inside (λ e. refl) (λ d z. refl) (λ k. refl))
        (length-set base u (positive 0))
        base_freed
        (check_linked (holding t u free) p freed.on p_inside (sym (link_before freed)))
        (check_linked (holding t u free) u freed.vacant inside (shown_link s p p_free p_inside ∙ link_over freed))
        (check_other freed)

  module _ (low : 1 ≤ u) (vacant : used t.cells u ≡ false) (q : ℕ) (h : 1 ≤ q) where
    abbrev B : Cells
    B = update t.cells u (inner q 0)

    not_root : u ≢ 1
    not_root = unused_other T u vacant

    filled : Freed t T B u p
    filled = record {
      below = b.below;
      inside = inside;
      vacant = vacant;
      taken = parent_used B u (rw (update_at T u (inner q 0)) h);
      same = λ v d. sym (update_off T u (inner q 0) v d);
      on = p_free;
      gap = passed;
    }

    p_still_free : used B p ≡ false
    p_still_free = used_same B T p (update_off T u (inner q 0) p (λ e. omega (arith, b.below))) ∙ p_free

    base_filled : Holds base (base_of (holding t u (inner q 0)))
    unfolding base_holds
    base_filled i = base_element s i ∙ sym (base_kept t u (inner q 0) (rw (s.table.blank u not_root (unused_parent T u vacant))) i)

    -- The free cell u becomes a child of q.
    pub take_out : Shown base (set (set check p (negative (minus_at check u))) u (positive q)) (holding t u (inner q 0))
    take_out = relinked B
        (tidy_holding s.table u (inner q 0) low inside (λ e. absurd (not_root e)) (λ d z. absurd (omega arith)) (λ k. refl))
        refl
        base_filled
        (check_linked (holding t u (inner q 0)) p p_still_free p_inside (shown_link s u vacant inside ∙ sym (link_over filled)))
        (sym (check_held t u (inner q 0) (omega (arith, not_root)) h))
        (λ i d o. sym (check_other filled i d o))

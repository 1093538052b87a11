-- The same cells under two sizes. No link up to the smaller size differs: the last of them, size + 1, already names the first
-- cell past it. Assumes nothing.
use mathlib.Core.Path.{◌≡◌, refl, sym, ap, ◌∙◌}
use mathlib.Core.Logic.{◌≢◌, ⊎_elim}
use mathlib.Core.Bool.{Bool, true, false, not, true≢false}
use mathlib.Core.List.{List}
use Prim.Native.Nat.{ℕ, suc, ◌+◌, ◌-◌, ◌≤◌, ◌<◌}
use native.Mathlib.Omega.{arith}
use lib.ListN.{length, get_or, set, length-set, replicate, length-replicate}
use lib.IntN.{ℤ}
use borrow.Rule.Slice.PartMut.{put_mid}
use Rattle.std.proofs.Common.{rules}
use Rattle.std.proofs.lemmas.List.{places, get_or-replicate}
use borrow.Author.Tests.{le-leb, lt-leb, ne_eqb}
use Rattle.numbers.specs.Stored.{positive, negative}
use Rattle.numbers.proofs.Cases.{lt_or_ge}
use Rattle.rules.specs.WhatTheIndexDoes.{document01, last_cell}
use Rattle.rules.specs.Table.{Table, used}
use Rattle.rules.specs.Rendering.{chained, next_free, base_of, check_of}
use Rattle.tree.specs.Renders.{Tidy}
use Rattle.tree.proofs.UsedCells.{parent_used}
use Rattle.tree.proofs.Elements.{check_past}
use Rattle.placing.specs.Search.{Next}
use Rattle.cells.specs.Edits.{Shown, sized}
use Rattle.cells.proofs.NextFree.{next_one, next_free_lem}
use Rattle.cells.proofs.Shown.{shown_long, base_element}
use Rattle.cells.proofs.Stores.{Holds, checks, check_linked, stored, show_again}

-- ---- the links

next_wider : {m : ℕ → Bool} {n size i v : ℕ} → Next m n i v → n ≤ size → ((u : ℕ) → n < u → u ≤ size → m u ≡ true) → Next m size i v
next_wider {n = n} {v = v} w l free = record {
  after = w.after;
  within = omega (arith, w.within);
  none = w.none;
  named = λ h. ⊎_elim (λ k. free v k h) w.named (lt_or_ge n v);
}

-- ---- an element after a write to the k elements from a on

module _ (a k : ℕ) (xs ys : List ℤ) (i : ℕ) (d : ℤ) where
  part_before : i < a → a ≤ length xs → get_or (put_mid a k xs ys) i d ≡ get_or xs i d
  part_before h l = search (rules, places)

  part_within : a ≤ i → i - a < length ys → a ≤ length xs → get_or (put_mid a k xs ys) i d ≡ get_or ys (i - a) d
  part_within h l m = search (rules, places)

  part_past : length ys ≡ k → a + k ≤ i → a + k ≤ length xs → get_or (put_mid a k xs ys) i d ≡ get_or xs i d
  part_past e h l = search (rules, places)

-- No cell past n is used.
module _ (t : Table) (n : ℕ) (past : (u : ℕ) → n < u → used t.cells u ≡ false) where
  next_sized : (size i : ℕ) → n ≤ size → i ≤ n → next_free (sized t size) i ≡ next_free (sized t n) i
  next_sized size i l h = next_one (next_free_lem (sized t size) i (omega arith))
      (next_wider (next_free_lem (sized t n) i h) l (λ u k _. ap not (past u k)))

  next_last : next_free (sized t (suc n)) (suc n) ≡ suc (suc n)
  next_last = next_one (next_free_lem (sized t (suc n)) (suc n) (omega arith))
      (record { after = omega arith; within = omega arith; none = λ u l k. absurd (omega arith); named = λ h. absurd (omega arith) })

  -- ---- check

  -- Up to n, and past the larger size, it is the same.
  check_sized : (size i : ℕ) → n ≤ size → (n < i → i ≤ size → ⊥) → checks (sized t size) i ≡ checks (sized t n) i
  unfolding check_of
  check_sized size i h apart = ⊎_elim
      (λ l. rw (lt-leb i n l, lt-leb i size (⊎_elim (λ k. k) (λ k. absurd (apart l k)) (lt_or_ge size i))))
      (λ l. rw (le-leb i n l, le-leb i size (omega arith), next_sized size i h l))
      (lt_or_ge n i)

  check_last : negative (suc (suc n)) ≡ checks (sized t (suc n)) (suc n)
  check_last = check_linked (sized t (suc n)) (suc n) (past (suc n) (omega arith)) (omega arith) (sym next_last)

  -- With one cell more.
  pub check_wider : (check : List ℤ) → suc n < length check → Holds check (checks (sized t n)) →
      Holds (set check (suc n) (negative (suc (suc n)))) (checks (sized t (suc n)))
  check_wider check long held i = stored check (suc n) i long
      (λ (e : i ≡ suc n). rw e check_last)
      (λ d. held i ∙ sym (check_sized (suc n) i (omega arith) (λ l k. d (omega arith))))

  -- With 0 in the cells past n.
  pub check_narrower : (size : ℕ) (check : List ℤ) → n ≤ size → size < length check → Holds check (checks (sized t size)) →
      Holds (put_mid (suc n) (size - n) check (replicate (size - n) (positive 0))) (checks (sized t n))
  check_narrower size check h long held i =
      let zeros = replicate (size - n) (positive 0) in
      let some : length zeros ≡ size - n = length-replicate (size - n) (positive 0) in
      ⊎_elim
      (λ l. ⊎_elim
      (λ k. part_past (suc n) (size - n) check zeros i (positive 0) some (omega arith) (omega arith)
      ∙ held i ∙ check_sized size i h (λ _ o. absurd (omega arith)))
      (λ k. part_within (suc n) (size - n) check zeros i (positive 0) (omega arith) (omega arith) (omega arith)
      ∙ get_or-replicate (size - n) (i - suc n) (positive 0) (positive 0) (omega arith)
      ∙ sym (check_past chained document01 (sized t n) i (past i l) l))
      (lt_or_ge size i))
      (λ l. part_before (suc n) (size - n) check zeros i (positive 0) (omega arith) (omega arith)
      ∙ held i ∙ check_sized size i h (λ k _. absurd (omega arith)))
      (lt_or_ge n i)

  -- ---- the table

  tidy_sized : Tidy t → 1 ≤ n → Tidy (sized t n)
  tidy_sized w h = record {
    nowhere = w.nowhere;
    root_parent = w.root_parent;
    blank = w.blank;
    some = h;
    inside = λ u p. ⊎_elim (λ l. absurd (true≢false (sym (parent_used t.cells u p) ∙ past u l))) (λ l. l) (lt_or_ge n u);
    one_kind = w.one_kind;
  }

  base_size : positive n ≡ base_of (sized t n) 0
  unfolding base_of
  base_size = refl

  base_sized : (i : ℕ) → i ≢ 0 → base_of t i ≡ base_of (sized t n) i
  unfolding base_of
  base_sized i d = rw (ne_eqb i 0 d)

  module _ {base check : List ℤ} (s : Shown base check t) where
    base_resized : Holds (set base 0 (positive n)) (base_of (sized t n))
    base_resized i = stored base 0 i (omega (arith, shown_long s))
        (λ (e : i ≡ 0). rw e base_size)
        (λ d. base_element s i ∙ base_sized i d)

    pub show_sized : {check' : List ℤ} → 1 ≤ n → n ≤ last_cell base → length check' ≡ length check → Holds check' (checks (sized t n)) →
        Shown (set base 0 (positive n)) check' (sized t n)
    show_sized some fits same held =
        show_again s (sized t n) (length-set base 0 (positive n)) same (tidy_sized s.table some) fits base_resized held

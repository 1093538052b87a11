-- What a cell that is not used holds: rules 2 and 3 say it of document 01's kind of table, and the two in their place say it of
-- the plain method's. Assumes nothing.
use mathlib.Core.Path.{◌≡◌, refl, sym, ap, ◌∙◌}
use mathlib.Core.Logic.{⊎_elim}
use mathlib.Core.Bool.{Bool, true, false, not, ◌&&◌, ◌||◌}
use mathlib.Core.List.{List}
use Prim.Native.Nat.{ℕ, suc, ◌≤◌, ◌<◌}
use native.Mathlib.Omega.{arith}
use lib.ListN.{get_or}
use lib.IntN.{ℤ}
use lib.Dec.{ltb, eqb}
use borrow.Author.Tests.{lt-ltb, le-leb, leb-true, eq-eqb, eqb-true}
use Rattle.numbers.specs.Stored.{positive, minus_of, minus_at}
use Rattle.numbers.proofs.Laws.{minus_negative, one_side, minus_is}
use Rattle.numbers.proofs.Cases.{lt_or_ge, same?, some?}
use Rattle.rules.specs.Table.{Cells, Table, free, used}
use Rattle.rules.specs.ASoundTable.{holds, size_at, free_at, next_free_at, rule2, rule3}
use Rattle.rules.specs.Rendering.{chained, next_free, read_cells, read_table}
use Rattle.rules.specs.PlainMethod.{plain, plain_rule2, plain_rule3}
use Rattle.rules.proofs.Choices.{both, join}
use Rattle.rules.proofs.Ranges.{first_low, first_same}
use Rattle.tree.proofs.UsedCells.{other_parent, unused_parent}
use Rattle.tree.proofs.ReadTests.{holds_is, is_holds, element_free, free_element}
use Rattle.tree.proofs.ReadTests.{Bounded, used_parent, to_unused, unused_to, Vacant}

next_after : (t : Table) (i : ℕ) → i < next_free t i
unfolding next_free
next_after t i = first_low _ t.size (suc i)

module _ {base check : List ℤ} (b : Bounded base check) where
  abbrev T : Cells
  T = read_cells base check

  abbrev t : Table
  t = read_table base check

  -- A fact of every cell up to the size that is not used.
  abbrev Each : (ℕ → Type 0) → Type 0
  Each F = (i : ℕ) → 1 ≤ i → i ≤ size_at base → used T i ≡ false → F i

  unused_free : Each (λ i. get_or base i (positive 0) ≡ positive 0) → (i : ℕ) → i ≤ size_at base → used T i ≡ false → T i ≡ free
  unfolding read_cells
  unused_free e i h u = ⊎_elim (λ z. rw z) (λ low. element_free base check i low (unused_parent T i u) (e i low h u)) (some? i)

  -- ---- document 01's kind

  second : rule2 base check ≡ true → Each (λ i. (1 ≤ minus_at check i) × (get_or base i (positive 0) ≡ positive 0))
  unfolding rule2 free_at
  second e i low high u =
      let (f, h) = both (free_at base check i) (holds base i 0) (unused_to b _ e i low high u) in
      (leb-true 1 (minus_at check i) f, holds_is base i 0 h)

  pub third_rule : rule3 base check ≡ true → (i : ℕ) → i ≤ size_at base → used T i ≡ false → minus_at check i ≡ next_free_at base check i
  unfolding rule3
  third_rule e i high u = let (first, more) = both (eqb (minus_at check 0) (next_free_at base check 0)) _ e in ⊎_elim
      (λ z. rw z (eqb-true _ _ first))
      (λ low. eqb-true _ _ (unused_to b _ more i low high u))
      (some? i)

  -- The root's check is the mark, so it is not negative.
  module _ (mark : minus_at check 1 ≡ 0) where
    used_plus : (i : ℕ) → used T i ≡ true → minus_at check i ≡ 0
    used_plus i u = ⊎_elim
        (λ e. ap (minus_at check) e ∙ mark)
        (λ d. let p = other_parent T i d u in one_side (get_or check i (positive 0)) (rw (used_parent b i p) at p))
        (same? i 1)

    module _ (gone : Each (λ i. 1 ≤ minus_at check i)) where
      same_free : (i : ℕ) → 1 ≤ i → i ≤ size_at base → free_at base check i ≡ not (used T i)
      unfolding free_at
      same_free i low high = go (used T i) refl
        where
          go : (x : Bool) → used T i ≡ x → free_at base check i ≡ not x
          go true u = rw (used_plus i u)
          go false u = le-leb 1 (minus_at check i) (gone i low high u)

      same_next : (i : ℕ) → next_free_at base check i ≡ next_free t i
      unfolding next_free_at next_free read_table
      same_next i = first_same _ _ (size_at base) (suc i) (λ m h. ⊎_elim
          (λ l. rw (lt-ltb (size_at base) m l))
          (λ l. ap (λ x. ltb (size_at base) m || x) (same_free m (omega arith) l))
          (lt_or_ge (size_at base) m))

    pub rules_vacant : rule2 base check ≡ true → rule3 base check ≡ true → Vacant chained base check
    rules_vacant e₂ e₃ i h u = let next = third_rule e₃ i h u ∙ same_next (λ j l k v. (second e₂ j l k v).0) i in
        (unused_free (λ j l k v. (second e₂ j l k v).1) i h u, minus_is (get_or check i (positive 0)) next (omega (arith, next_after t i)))

    module _ (v : Vacant chained base check) where
      link : (i : ℕ) → i ≤ size_at base → used T i ≡ false → minus_at check i ≡ next_free t i
      link i h u = ap minus_of (v i h u).1 ∙ minus_negative (next_free t i)

      gone : Each (λ i. 1 ≤ minus_at check i)
      gone i low h u = omega (arith, link i h u, next_after t i)

      link_test : (i : ℕ) → i ≤ size_at base → used T i ≡ false → eqb (minus_at check i) (next_free_at base check i) ≡ true
      link_test i h u = eq-eqb _ _ (link i h u ∙ sym (same_next gone i))

      pub vacant_rule2 : rule2 base check ≡ true
      unfolding rule2 free_at
      vacant_rule2 = to_unused b _ (λ i low high u.
          join (le-leb 1 (minus_at check i) (gone i low high u)) (is_holds base i 0 (free_element base check i low (v i high u).0)))

      pub vacant_rule3 : rule3 base check ≡ true
      unfolding rule3 used read_cells
      vacant_rule3 = join (link_test 0 (omega arith) refl) (to_unused b _ (λ i low. link_test i))

  -- ---- the plain method's kind

  pub plain_vacant : plain_rule2 base check ≡ true → plain_rule3 base check ≡ true → Vacant plain base check
  unfolding plain_rule2 plain_rule3
  plain_vacant e₂ e₃ i h u = (
    unused_free (λ j l k v. holds_is base j 0 (both _ _ (noughts j l k v)).0) i h u,
    ⊎_elim (λ z. rw z (holds_is check 0 0 e₃)) (λ low. holds_is check i 0 (both (holds base i 0) _ (noughts i low h u)).1) (some? i),
  )
    where
      noughts : Each (λ i. (holds base i 0 && holds check i 0) ≡ true)
      noughts = unused_to b _ e₂

  module _ (v : Vacant plain base check) where
    pub vacant_plain2 : plain_rule2 base check ≡ true
    unfolding plain_rule2
    vacant_plain2 = to_unused b _ (λ i low high u.
        join (is_holds base i 0 (free_element base check i low (v i high u).0)) (is_holds check i 0 (v i high u).1))

    pub vacant_plain3 : plain_rule3 base check ≡ true
    unfolding plain_rule3 used read_cells
    vacant_plain3 = is_holds check 0 0 (v 0 (omega arith) refl).1

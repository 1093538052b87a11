-- The marks on the parents: how one more cell is taken in, and what they say in the end. Assumes nothing.
use mathlib.Core.Path.{◌≡◌, refl, sym, ap, ◌∙◌}
use mathlib.Core.Logic.{◌≢◌, ⊎_elim}
use mathlib.Core.Bool.{Bool, true, false, true≢false}
use mathlib.Core.List.{List}
use Prim.Native.Nat.{ℕ, ◌-◌, ◌≤◌, ◌<◌}
use native.Mathlib.Omega.{arith}
use lib.ListN.{length, set, length-set}
use lib.Seq.{get_or-set_same, get_or-set_other}
use lib.IntN.{ℤ}
use lib.Dec.{leb, eqb}
use borrow.Author.Tests.{le-leb, leb-true, eq-eqb, eqb-true}
use Rattle.numbers.specs.Stored.{plus_at}
use Rattle.numbers.proofs.Cases.{same?}
use Rattle.rules.specs.ASoundTable.{size_at, has_child}
use Rattle.rules.proofs.Choices.{both, join}
use Rattle.rules.proofs.Ranges.{some_to_lem, to_some}
use Rattle.audit.specs.Says.{Says}
use Rattle.audit.specs.Marks.{marked, MarksPast}
use Rattle.audit.proofs.Downwards.{past_less}

module _ (base check : List ℤ) where
  child_parent : (t : ℕ) → 2 ≤ t → t ≤ size_at base → has_child base check (plus_at check t) ≡ true
  unfolding has_child
  child_parent t far high = to_some _ (size_at base) t (omega arith) high (join (le-leb 2 t far) (eq-eqb (plus_at check t) _ refl))

  a_child : (s : ℕ) → has_child base check s ≡ true → (t : ℕ) × (2 ≤ t) × (t ≤ size_at base) × (plus_at check t ≡ s)
  unfolding has_child
  a_child s e =
      let (t, low, high, p) = some_to_lem _ (size_at base) e in
      let (far, is) = both (leb 2 t) (eqb (plus_at check t) s) p in
      (t, leb-true 2 t far, high, eqb-true _ s is)

-- A mark more.
module _ (marks : List Bool) (p s : ℕ) where
  marked_still : p < length marks → marked marks s ≡ true → marked (set marks p true) s ≡ true
  marked_still h e = ⊎_elim
      (λ (v : s ≡ p). rw v (get_or-set_same marks p true false h))
      (λ d. get_or-set_other marks p s true false d ∙ e)
      (same? s p)

  marked_before : s ≢ p → marked (set marks p true) s ≡ true → marked marks s ≡ true
  marked_before d e = sym (get_or-set_other marks p s true false d) ∙ e

module _ {base check : List ℤ} {marks : List Bool} where
  -- Where every parent is marked, a mark says who has a child.
  pub marks_say : MarksPast base check 1 marks → (s : ℕ) → 1 ≤ s → Says (has_child base check s ≡ true) (marked marks s)
  marks_say m s h = record {
    yes = m.only s;
    no = λ e c. let (t, far, high, is) = a_child base check s c in
        true≢false (sym (m.each t far high (rw is h)) ∙ ap (marked marks) is ∙ e);
  }

  module _ {t : ℕ} (m : MarksPast base check t marks) where
    pub mark_none : plus_at check t ≡ 0 → MarksPast base check (t - 1) marks
    mark_none z = record { long = m.long; each = past_less _ t m.each (λ high k. absurd (omega arith)); only = m.only }

    pub mark_parent : {p : ℕ} → 2 ≤ t → t ≤ size_at base → plus_at check t ≡ p → p ≤ size_at base →
        MarksPast base check (t - 1) (set marks p true)
    mark_parent {p} far high is small =
        let h : p < length marks = omega (arith, m.long) in record {
          long = rw length-set m.long;
          each = past_less _ t
              (λ u l inside k. marked_still marks p _ h (m.each u l inside k))
              (λ inside k. rw is (get_or-set_same marks p true false h));
          only = λ s e. ⊎_elim
              (λ (v : s ≡ p). rw (v, ← is) (child_parent base check t far high))
              (λ d. m.only s (marked_before marks p s d e))
              (same? s p);
        }

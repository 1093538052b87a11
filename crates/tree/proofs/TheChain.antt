-- The chain of empty cells as a table is rendered: it names every free cell up to the size, once each and ascending, and ends
-- at size + 1. Assumes nothing.
use mathlib.Core.Path.{◌≡◌, refl, sym, ap, ◌∙◌}
use mathlib.Core.Logic.{◌≢◌, inl, inr, ⊎_elim}
use mathlib.Core.Bool.{Bool, true, false, cond, not, ◌||◌, true≢false}
use mathlib.Core.List.{List, [], ◌∷◌, ◌++◌}
use Prim.Native.Nat.{ℕ, zero, suc, ◌+◌, ◌≤◌, ◌<◌}
use native.Mathlib.Omega.{arith}
use lib.IntN.{ℤ}
use lib.Dec.{leb, ltb}
use borrow.Author.Tests.{lt-ltb, le-ltb, le-leb, lt-leb}
use Rattle.numbers.specs.Stored.{minus_of, minus_at}
use Rattle.numbers.proofs.Laws.{minus_negative}
use Rattle.numbers.proofs.Cases.{same?}
use Rattle.rules.specs.Ranges.{first_from}
use Rattle.rules.specs.WhatTheIndexDoes.{Profile}
use Rattle.rules.specs.Table.{Table, used}
use Rattle.rules.specs.Rendering.{chained, next_free, render_check}
use Rattle.rules.proofs.Choices.{branch}
use Rattle.rules.proofs.Ranges.{first_least, first_low}
use Rattle.tree.specs.TheChain.{links_from, unused_from, Unused}
use Rattle.tree.specs.Members.{Among, Rising}
use Rattle.tree.proofs.UsedCells.{parentless_unused}
use Rattle.tree.proofs.Elements.{check_link, check_inside}

-- ---- the list of the unused cells

module _ (u : ℕ → Bool) where
  -- v is an unused one of the n cells from i on.
  abbrev IsUnused : ℕ → ℕ → ℕ → Type 0
  IsUnused n i v = (i ≤ v) × (v < i + n) × (u v ≡ false)

  one_earlier : (n i v : ℕ) → IsUnused n (suc i) v → IsUnused (suc n) i v
  one_earlier n i v (low, high, f) = (omega arith, omega arith, f)

  unused_each : (n i v : ℕ) → Among v (unused_from u n i) → IsUnused n i v
  unfolding unused_from
  unused_each zero i v = λ a. absurd a
  unused_each (suc n) i v = branch (λ (vs : List ℕ). Among v vs → IsUnused (suc n) i v) (u i) (λ _ a. one_earlier n i v (unused_each n (suc i) v a))
      (λ f. ⊎_elim (λ e. (omega arith, omega arith, ap u e ∙ f)) (λ a. one_earlier n i v (unused_each n (suc i) v a)))

  unused_all : (n i v : ℕ) → i ≤ v → v < i + n → u v ≡ false → Among v (unused_from u n i)
  unfolding unused_from
  unused_all zero i v low high f = absurd (omega arith)
  unused_all (suc n) i v low high f = branch (λ (vs : List ℕ). Among v vs) (u i)
      (λ t. let d : v ≢ i = (λ e. true≢false (sym t ∙ ap u (sym e) ∙ f)) in unused_all n (suc i) v (omega arith) (omega arith) f)
      (λ _. ⊎_elim (λ e. inl e) (λ d. inr (unused_all n (suc i) v (omega arith) (omega arith) f)) (same? v i))

  unused_rising : (n i : ℕ) → Rising (unused_from u n i)
  unfolding unused_from
  unused_rising zero i = tt
  unused_rising (suc n) i = branch (λ (vs : List ℕ). Rising vs) (u i) (λ _. unused_rising n (suc i))
      (λ _. (λ v a. let (low, high, f) = unused_each n (suc i) v a in omega arith, unused_rising n (suc i)))

  pub unused_cells : (size : ℕ) → Unused u size (unused_from u size 1)
  unused_cells size = record {
    each = λ v a. let (low, high, f) = unused_each size 1 v a in (low, omega arith, f);
    all = λ v low high f. unused_all size 1 v low (omega arith) f;
    rising = unused_rising size 1;
  }

-- ---- the chain

module _ (u : ℕ → Bool) (size : ℕ) where
  abbrev ends : ℕ → Bool
  ends q = ltb size q || not (u q)

  -- The unused ones of the k cells after i, and the first cell past the size.
  abbrev after : ℕ → ℕ → List ℕ
  after i k = unused_from u k (suc i) ++ (suc size ∷ [])

  -- What the first free cell f is to the list of the free cells up to the size: it is past them all, or their head.
  data First (f : ℕ) (cells : List ℕ) : Type 0 where
    none : f ≡ suc size → cells ≡ [] → First f cells
    head : (k : ℕ) → suc f + k ≡ suc size → u f ≡ false → cells ≡ f ∷ unused_from u k (suc f) → First f cells

  choose : (k q f : ℕ) (b : Bool) → u q ≡ b → suc q + k ≡ suc size → let rest = unused_from u k (suc q) in
      First f rest → First (cond (not b) q f) (cond b rest (q ∷ rest))
  choose k q f true v e r = r
  choose k q f false v e r = head k e v refl

  first : (n k q : ℕ) → q + k ≡ suc size → k ≤ n → First (first_from ends n q) (unused_from u k q)
  unfolding first_from unused_from
  first n zero q e h =
      let t : ends q ≡ true = rw (lt-ltb size q (omega arith)) in
      none (omega (arith, first_low ends n q, first_least ends n q q (omega arith) t)) refl
  first zero (suc k) q e h = absurd (omega arith)
  first (suc n) (suc k) q e h = rw (le-ltb size q (omega arith))
      (choose k q (first_from ends n (suc q)) (u q) refl (omega arith) (first n k (suc q) (omega arith) (omega arith)))

  -- The chain from an element that names f, where `on` is the chain from f.
  links : (f : ℕ) (cells on : List ℕ) → First f cells → ((k : ℕ) → suc f + k ≡ suc size → u f ≡ false → on ≡ after f k) →
      f ∷ cond (leb f size) on [] ≡ cells ++ (suc size ∷ [])
  links f cells on (none e v) more = rw (v, lt-leb f size (omega arith)) (ap (λ x. x ∷ []) e)
  links f cells on (head k e v c) more = rw (c, le-leb f size (omega arith)) (ap (λ xs. f ∷ xs) (more k e v))

module _ (P : Profile) (t : Table) (z : (t.cells 0).parent ≡ 0) (n : ℕ) (long : t.size < n) where
  abbrev u : ℕ → Bool
  u = used t.cells

  abbrev check : List ℤ
  check = render_check chained P n t

  link_at : (i : ℕ) → u i ≡ false → i ≤ t.size → minus_at check i ≡ next_free t i
  link_at i e h = ap minus_of (check_inside chained P t n i (omega arith) ∙ check_link chained P t i e h) ∙ minus_negative (next_free t i)

  chain_from : (m k i : ℕ) → suc i + k ≡ suc t.size → k < m → u i ≡ false → links_from check t.size m i ≡ after u t.size i k
  unfolding links_from next_free
  chain_from zero k i e h v = absurd (omega arith)
  chain_from (suc m) k i e h v = let f = next_free t i in rw (link_at i v (omega arith)) (links u t.size f _ _
      (first u t.size t.size k (suc i) e (omega arith))
      (λ j p q. chain_from m j f p (omega (arith, first_low (ends u t.size) t.size (suc i))) q))

  pub chain_names : links_from (render_check chained P n t) t.size (suc t.size) 0 ≡
      unused_from (used t.cells) t.size 1 ++ (suc t.size ∷ [])
  chain_names = chain_from (suc t.size) t.size 0 (omega arith) (omega arith)
      (parentless_unused t.cells 0 (λ e. omega arith) z)

-- Laws of the tests over ranges, and of the first number that passes a test. Assumes nothing.
use mathlib.Core.Path.{◌≡◌, refl, sym, ap, ap₂, ◌∙◌}
use mathlib.Core.Logic.{⊎_elim}
use mathlib.Core.Bool.{Bool, true, false, cond, true≢false, and-false, or-true}
use Prim.Native.Nat.{ℕ, zero, suc, ◌+◌, ◌≤◌, ◌<◌}
use native.Mathlib.Nat.{add-zero, add-suc, suc-add, eq-or-lt_of_le, le_antisymm, le_of_suc-le-suc}
use native.Mathlib.Omega.{arith}
use lib.Dec.{leb}
use borrow.Author.Tests.{le-leb, lt-leb, leb-true}
use Rattle.rules.specs.Ranges.{within, each_to, some_to, first_from}
use Rattle.rules.proofs.Choices.{branch, both, either}

-- ---- a range

module _ (low high n : ℕ) where
  pub inside : low ≤ n → n ≤ high → within low high n ≡ true
  unfolding within
  inside p q = rw (le-leb low n p, le-leb n high q)

  pub below : n < low → within low high n ≡ false
  unfolding within
  below p = rw (lt-leb low n p)

  pub above : high < n → within low high n ≡ false
  unfolding within
  above p = rw (lt-leb n high p, and-false)

  pub within_is : within low high n ≡ true → (low ≤ n) × (n ≤ high)
  unfolding within
  within_is e = let (l, h) = both (leb low n) (leb n high) e in (leb-true low n l, leb-true n high h)

-- ---- each, some, the first

module _ (test : ℕ → Bool) where
  pub each_to_lem : (k : ℕ) → each_to k test ≡ true → (i : ℕ) → 1 ≤ i → i ≤ k → test i ≡ true
  unfolding each_to
  each_to_lem zero e i low high = absurd (omega arith)
  each_to_lem (suc k) e i low high =
      let (now, more) = both (test (suc k)) (each_to k test) e in
      ⊎_elim (λ v. ap test v ∙ now) (λ lt. each_to_lem k more i low (le_of_suc-le-suc lt)) (eq-or-lt_of_le high)

  pub to_each : (k : ℕ) → ((i : ℕ) → 1 ≤ i → i ≤ k → test i ≡ true) → each_to k test ≡ true
  unfolding each_to
  to_each zero h = refl
  to_each (suc k) h = rw (h (suc k) (omega arith) (omega arith)) (to_each k (λ i low high. h i low (omega arith)))

  pub some_to_lem : (k : ℕ) → some_to k test ≡ true → (i : ℕ) × (1 ≤ i) × (i ≤ k) × (test i ≡ true)
  unfolding some_to
  some_to_lem zero e = absurd (true≢false (sym e))
  some_to_lem (suc k) e = ⊎_elim
      (λ t. (suc k, omega arith, omega arith, t))
      (λ t. let (i, low, high, p) = some_to_lem k t in (i, low, omega arith, p))
      (either (test (suc k)) (some_to k test) e)

  pub to_some : (k i : ℕ) → 1 ≤ i → i ≤ k → test i ≡ true → some_to k test ≡ true
  unfolding some_to
  to_some zero i low high e = absurd (omega arith)
  to_some (suc k) i low high e =
      ⊎_elim (λ v. rw (← v, e)) (λ l. rw (to_some k i low (omega arith) e, or-true)) (eq-or-lt_of_le high)

  pub first_low : (n q : ℕ) → q ≤ first_from test n q
  unfolding first_from
  first_low zero q = omega arith
  first_low (suc n) q = branch (λ r. q ≤ r) (test q) (λ t. omega arith) (λ f. omega (arith, first_low n (suc q)))

  pub first_least : (n q m : ℕ) → q ≤ m → test m ≡ true → first_from test n q ≤ m
  unfolding first_from
  first_least zero q m h e = h
  first_least (suc n) q m h e = branch (λ r. r ≤ m) (test q) (λ t. h)
      (λ f. ⊎_elim (λ v. absurd (true≢false (sym e ∙ ap test (sym v) ∙ f))) (λ l. first_least n (suc q) m l e) (eq-or-lt_of_le h))

  pub first_passes : (n q : ℕ) → test (q + n) ≡ true → test (first_from test n q) ≡ true
  unfolding first_from
  first_passes zero q e = rw add-zero at e
  first_passes (suc n) q e = branch (λ r. test r ≡ true) (test q) (λ t. t)
      (λ f. first_passes n (suc q) (ap test (suc-add q n ∙ sym (add-suc q n)) ∙ e))

  pub first_same : (other : ℕ → Bool) (n q : ℕ) → ((m : ℕ) → q ≤ m → test m ≡ other m) →
      first_from test n q ≡ first_from other n q
  unfolding first_from
  first_same other zero q h = refl
  first_same other (suc n) q h =
      ap₂ (λ b r. cond b q r) (h q (omega arith)) (first_same other n (suc q) (λ m l. h m (omega arith)))

  -- The first is the one at hand, where that passes.
  pub first_here : (n q : ℕ) → test q ≡ true → first_from test n q ≡ q
  unfolding first_from
  first_here zero q e = refl
  first_here (suc n) q e = rw e

  pub first_is : (n q r : ℕ) → q ≤ r → r ≤ q + n → test r ≡ true → ((s : ℕ) → q ≤ s → s < r → test s ≡ false) →
      first_from test n q ≡ r
  unfolding first_from
  first_is zero q r low high e f = omega arith
  first_is (suc n) q r low high e f = ⊎_elim
      (λ v. first_here (suc n) q (ap test v ∙ e) ∙ v)
      (λ l. rw (f q (omega arith) l) (first_is n (suc q) r l (omega arith) e (λ s h. f s (omega arith))))
      (eq-or-lt_of_le low)

  -- How many failures are allowed does not matter, where the last number tried passes.
  first_any : (n m q : ℕ) → test (q + n) ≡ true → test (q + m) ≡ true → first_from test n q ≡ first_from test m q
  first_any n m q p r = le_antisymm
      (first_least n q _ (first_low m q) (first_passes m q r))
      (first_least m q _ (first_low n q) (first_passes n q p))

  -- Where the one at hand fails, the first is the first of those past it.
  pub first_skip : (n q : ℕ) → test q ≡ false → test (q + n) ≡ true → test (q + suc n) ≡ true → first_from test n q ≡ first_from test n (suc q)
  unfolding first_from
  first_skip n q f p r = first_any n (suc n) q p r ∙ rw f

-- The search along a chain of empty cells: how far it has come, and what it finds. Assumes nothing.
use mathlib.Core.Path.{◌≡◌, sym, ap, ◌∙◌}
use mathlib.Core.Logic.{⊎_elim}
use mathlib.Core.Bool.{Bool, true, false, and-false, or-true}
use mathlib.Core.List.{List}
use Prim.Native.Nat.{ℕ, suc, ◌+◌, ◌-◌, ◌≤◌, ◌<◌, max}
use native.Mathlib.Nat.{eq-or-lt_of_le}
use native.Mathlib.Omega.{arith}
use lib.IntN.{ℤ}
use borrow.Author.Tests.{lt-ltb, le-ltb}
use Rattle.numbers.specs.Stored.{minus_at}
use Rattle.numbers.proofs.Cases.{lt_or_ge}
use Rattle.rules.specs.Placement.{least_of, opens, suits, sought}
use Rattle.rules.proofs.Ranges.{first_is}
use Rattle.tree.proofs.Placement.{among_least, each_opens}
use Rattle.placing.specs.Search.{taken_at, Next, Chain, Arrived}
use Rattle.placing.proofs.TakenCells.{taken_past}

-- A base whose least cell lies between two neighbours on the chain does not suit.
skipped : {m : ℕ → Bool} {size u v : ℕ} (used : ℕ → Bool) (codes : List ℕ) (q : ℕ) → Next m size u v →
    u < q + least_of codes → q + least_of codes < v → suits m used size codes q ≡ false
skipped {m} {size} used codes q n a b =
    rw (n.none (q + least_of codes) a b, le-ltb size (q + least_of codes) (omega (arith, n.within)))

module _ {m : ℕ → Bool} {check : List ℤ} {size : ℕ} (codes : List ℕ) where
  module _ (chain : Chain m size check) where
    -- Where no base opens whose least cell is u, the search goes on along the link.
    pub goes_on : {u : ℕ} → Arrived m check size codes u → u ≤ size →
        ((q : ℕ) → 1 ≤ q → q + least_of codes ≡ u → opens (taken_at check size) codes q ≡ false) →
        Arrived m check size codes (minus_at check u)
    goes_on {u} r h shut =
        let n : Next m size u (minus_at check u) = chain.link u h (r.on h) in
        record {
          on = n.named;
          passed = λ q l k. ⊎_elim (r.passed q l)
              (λ a. ⊎_elim (λ e. rw (shut q l (sym e), and-false)) (λ b. skipped (taken_at check size) codes q n b k) (eq-or-lt_of_le a))
              (lt_or_ge (q + least_of codes) u);
        }

    -- It starts with the link of the header.
    pub starts : Arrived m check size codes (minus_at check 0)
    starts = goes_on
        (record { on = λ h. chain.header; passed = λ q l k. absurd (omega arith) })
        (omega arith) (λ q l e. absurd (omega arith))

  module _ {u : ℕ} (r : Arrived m check size codes u) (q : ℕ) where
    is_sought : 1 ≤ q → q ≤ suc size → q ≤ max 1 (u - least_of codes) → suits m (taken_at check size) size codes q ≡ true →
        q ≡ sought m (taken_at check size) size codes
    unfolding sought
    is_sought l h b e =
        sym (first_is (suits m (taken_at check size) size codes) size 1 q l (omega arith) e (λ s k a. r.passed s k (omega arith)))

    pub found : u ≤ size → 1 ≤ q → q + least_of codes ≡ u → opens (taken_at check size) codes q ≡ true →
        q ≡ sought m (taken_at check size) size codes
    found h l e o = is_sought l (omega arith) (omega arith) (rw (ap m e ∙ r.on h) o)

    -- Past the chain's end every base opens.
    pub ended : size < u → q ≡ max 1 (suc size - least_of codes) → q ≡ sought m (taken_at check size) size codes
    ended h e = is_sought (omega arith) (omega arith) (omega arith)
        (rw (lt-ltb size (q + least_of codes) (omega arith), or-true)
        (each_opens (taken_at check size) codes q (λ c a. taken_past check size (q + c) (omega (arith, among_least codes c a)))))

-- The placed base: it opens, is 1 or more, is the least that does, and is at most the size; so there is one for every set of
-- codes. What the search along a chain gives is that base, where the chain names every free cell. Assumes nothing.
use mathlib.Core.Path.{◌≡◌, refl, sym, subst}
use mathlib.Core.Logic.{inl, inr, ⊎_elim}
use mathlib.Core.Bool.{Bool, true, false, not, ◌||◌, or-true}
use mathlib.Core.List.{List, [], ◌∷◌}
use Prim.Native.Nat.{ℕ, ◌+◌, ◌≤◌, ◌<◌}
use native.Mathlib.Nat.{min-eq_left, min-eq_right, le_of_lt}
use native.Mathlib.Omega.{arith}
use lib.ListN.{length}
use lib.Dec.{ltb}
use borrow.Author.Tests.{not-true, lt-ltb}
use Rattle.numbers.proofs.Cases.{lt_or_ge}
use Rattle.rules.specs.Placement.{least_of, greatest_of, opens, placed, suits, sought}
use Rattle.rules.proofs.Choices.{both, join_second}
use Rattle.rules.proofs.Ranges.{first_least, first_low, first_passes, first_same}
use Rattle.tree.specs.Members.{Among}

pub among_greatest : (cs : List ℕ) (c : ℕ) → Among c cs → c ≤ greatest_of cs
unfolding greatest_of
among_greatest [] c m = absurd m
among_greatest (d ∷ cs) c (inl e) = omega arith
among_greatest (d ∷ cs) c (inr m) = omega (arith, among_greatest cs c m)

pub greatest_within : (cs : List ℕ) (n : ℕ) → ((c : ℕ) → Among c cs → c ≤ n) → greatest_of cs ≤ n
unfolding greatest_of
greatest_within [] n h = omega arith
greatest_within (d ∷ cs) n h = omega (arith, h d (inl refl), greatest_within cs n (λ c m. h c (inr m)))

pub among_least : (cs : List ℕ) (c : ℕ) → Among c cs → least_of cs ≤ c
unfolding least_of
among_least [] c m = absurd m
among_least (d ∷ []) c (inl e) = omega arith
among_least (d ∷ []) c (inr m) = absurd m
among_least (d ∷ (e ∷ cs)) c (inl v) = omega arith
among_least (d ∷ (e ∷ cs)) c (inr m) = omega (arith, among_least (e ∷ cs) c m)

least_among : (cs : List ℕ) → 0 < length cs → Among (least_of cs) cs
unfolding least_of
least_among [] h = absurd (omega arith)
least_among (c ∷ []) h = inl refl
least_among (c ∷ (d ∷ cs)) h = ⊎_elim
    (λ l. inr (subst (λ n. Among n (d ∷ cs)) (sym (min-eq_right (le_of_lt l))) (least_among (d ∷ cs) (omega arith))))
    (λ l. inl (min-eq_left l))
    (lt_or_ge (least_of (d ∷ cs)) c)

module _ (used : ℕ → Bool) where
  -- A base opens exactly if each code's cell is unused.
  pub opens_each : (cs : List ℕ) (q c : ℕ) → opens used cs q ≡ true → Among c cs → used (q + c) ≡ false
  unfolding opens
  opens_each [] q c o m = absurd m
  opens_each (d ∷ cs) q c o (inl e) = rw e (not-true _ (both (not (used (q + d))) _ o).0)
  opens_each (d ∷ cs) q c o (inr m) = opens_each cs q c (both (not (used (q + d))) _ o).1 m

  pub each_opens : (cs : List ℕ) (q : ℕ) → ((c : ℕ) → Among c cs → used (q + c) ≡ false) → opens used cs q ≡ true
  unfolding opens
  each_opens [] q f = refl
  each_opens (d ∷ cs) q f = rw (f d (inl refl), each_opens cs q (λ c m. f c (inr m)))

  module _ (size : ℕ) (cs : List ℕ) where
    pub placed_pos : 1 ≤ placed used size cs
    unfolding placed
    placed_pos = first_low (opens used cs) size 1

    pub placed_least : (m : ℕ) → 1 ≤ m → opens used cs m ≡ true → placed used size cs ≤ m
    unfolding placed
    placed_least = first_least (opens used cs) size 1

  module _ (size : ℕ) (past : (t : ℕ) → size < t → used t ≡ false) (cs : List ℕ) where
    opens_past : opens used cs (1 + size) ≡ true
    opens_past = each_opens cs (1 + size) (λ c m. past _ (omega arith))

    pub placed_opens : opens used cs (placed used size cs) ≡ true
    unfolding placed
    placed_opens = first_passes (opens used cs) size 1 opens_past

    pub placed_near : placed used size cs ≤ 1 + size
    placed_near = placed_least size cs (1 + size) (omega arith) opens_past

    pub placed_within : 1 ≤ size → ((c : ℕ) → Among c cs → 1 ≤ c) → placed used size cs ≤ size
    placed_within h low = placed_least size cs size h (each_opens cs size (λ c m. past _ (omega (arith, low c m))))

-- What the search along a chain gives suits, and is the least that does; so there is one for every chain.
module _ (chain used : ℕ → Bool) (size : ℕ) (codes : List ℕ) where
  pub sought_least : (m : ℕ) → 1 ≤ m → suits chain used size codes m ≡ true → sought chain used size codes ≤ m
  unfolding sought
  sought_least = first_least (suits chain used size codes) size 1

  pub sought_suits : ((t : ℕ) → size < t → used t ≡ false) → suits chain used size codes (sought chain used size codes) ≡ true
  unfolding sought
  sought_suits past = first_passes (suits chain used size codes) size 1
      (rw (lt-ltb size (1 + size + least_of codes) (omega arith), or-true) (each_opens used codes (1 + size) (λ c m. past _ (omega arith))))

-- Where the chain names every free cell, it gives the placed base.
module _ (chain used : ℕ → Bool) (size : ℕ) (names : (u : ℕ) → 1 ≤ u → u ≤ size → chain u ≡ not (used u))
    (codes : List ℕ) (some : 0 < length codes) where
  suits_opens : (q : ℕ) → 1 ≤ q → suits chain used size codes q ≡ opens used codes q
  suits_opens q h =
      let u = q + least_of codes in
      join_second (chain u || ltb size u) (opens used codes q) (λ o. ⊎_elim
      (λ l. rw (lt-ltb size u l, or-true))
      (λ l. rw (names u (omega arith) l, opens_each used codes q (least_of codes) o (least_among codes some)))
      (lt_or_ge size u))

  pub sought_placed : sought chain used size codes ≡ placed used size codes
  unfolding sought placed
  sought_placed = first_same (suits chain used size codes) (opens used codes) size 1 suits_opens

-- `opens` asks of all codes but the first, then of that one. Assumes nothing.
use mathlib.Core.Path.{◌≡◌, refl, sym, ap, ◌∙◌}
use mathlib.Core.Logic.{inl, inr}
use mathlib.Core.Bool.{Bool, true, false, not, and-true, and-false}
use mathlib.Core.List.{List, [], ◌∷◌}
use Prim.Native.Nat.{ℕ, zero, suc, ◌+◌, ◌-◌, ◌≤◌}
use native.Mathlib.Omega.{arith}
use lib.ListN.{length, get_or, take, drop, length-drop}
use lib.Seq.{take_all}
use Rattle.rules.specs.WhatTheIndexDoes.{GREATEST}
use Rattle.rules.specs.Placement.{opens}
use Rattle.rules.proofs.Texts.{first_and_rest}
use Rattle.tree.specs.Members.{Among}
use Rattle.placing.specs.Search.{Codes}
use Rattle.placing.proofs.Stored.opens.Goals as goal

-- Only elements of a list are among its first n.
among_taken : (n : ℕ) (codes : List ℕ) (c : ℕ) → Among c (take n codes) → Among c codes
among_taken zero codes c m = absurd m
among_taken (suc n) [] c m = absurd m
among_taken (suc n) (d ∷ codes) c (inl e) = inl e
among_taken (suc n) (d ∷ codes) c (inr m) = inr (among_taken n codes c m)

module _ {codes : List ℕ} (w : Codes codes) where
  first_small : get_or codes 0 0 ≤ GREATEST
  first_small = (rw (first_and_rest codes w.some) at w.small) _ (inl refl)

  rest_small : (n c : ℕ) → Among c (take n (drop 1 codes)) → c ≤ GREATEST
  rest_small n c m =
      (rw (first_and_rest codes w.some, take_all (length codes - 1) (drop 1 codes) (omega (arith, length-drop 1 codes))) at w.small) c
      (inr (among_taken n (drop 1 codes) c m))

  -- n codes behind the first are all of them.
  module _ (n : ℕ) (all : length codes ≤ n + 1) where
    first_is_before : codes ≡ get_or codes 0 0 ∷ take n (drop 1 codes)
    first_is_before = first_and_rest codes w.some ∙ ap (λ (r : List ℕ). get_or codes 0 0 ∷ r)
        (take_all (length codes - 1) (drop 1 codes) (omega (arith, length-drop 1 codes)) ∙
        sym (take_all n (drop 1 codes) (omega (arith, length-drop 1 codes))))

    module _ (used : ℕ → Bool) (q : ℕ) where
      first_decides : opens used (take n (drop 1 codes)) q ≡ true → not (used (q + get_or codes 0 0)) ≡ opens used codes q
      unfolding opens
      first_decides e = sym (ap (λ (cs : List ℕ). opens used cs q) first_is_before ∙ rw e (and-true (not (used (q + get_or codes 0 0)))))

      rest_decides : opens used (take n (drop 1 codes)) q ≡ false → false ≡ opens used codes q
      unfolding opens
      rest_decides e = sym (ap (λ (cs : List ℕ). opens used cs q) first_is_before ∙ rw e (and-false (not (used (q + get_or codes 0 0)))))

pub are_unused-requires : goal.are_unused-requires
are_unused-requires c = let p = c.requires in record { near = p.near; small = rest_small p.wanted _ }

pub overflow_add-q : goal.overflow_add-q
overflow_add-q c = omega (arith, first_small c.requires.wanted)

pub returns-then-are_unused : goal.returns-then-are_unused
returns-then-are_unused c = ap not c.is_taken.ensures ∙ first_decides c.requires.wanted _ (omega arith) _ _
    (sym c.are_unused.ensures ∙ c.if-are_unused.true)

pub returns-else-are_unused : goal.returns-else-are_unused
returns-else-are_unused c = c.if-are_unused.false ∙ rest_decides c.requires.wanted _ (omega arith) _ _ (sym c.are_unused.ensures ∙ c.if-are_unused.false)

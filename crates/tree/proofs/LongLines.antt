-- A line of 523 bytes or more is no command; so of an unfinished line the first 523 bytes say all, whatever follows. Assumes
-- nothing.
use mathlib.Core.Path.{◌≡◌, refl, ap, ◌∙◌}
use mathlib.Core.Logic.{⊎_elim}
use mathlib.Core.Bool.{true, ◌&&◌}
use mathlib.Core.List.{List, [], ◌∷◌, ◌++◌}
use mathlib.Core.Option.{none}
use Prim.Native.Nat.{ℕ, ◌+◌, ◌*◌, ◌≤◌, ◌<◌}
use native.Mathlib.Omega.{arith}
use lib.ListN.{length, take, drop, length-append}
use lib.Seq.{length-take-le, take_all}
use lib.Dec.{ltb, eqb}
use borrow.Author.Tests.{ltb-true, eqb-true}
use Rattle.numbers.proofs.Cases.{lt_or_ge}
use Rattle.rules.specs.WhatTheIndexDoes.{Profile}
use Rattle.rules.specs.Table.{Table}
use Rattle.rules.specs.ARun.{joined, sheet_lines, nibble, digits, read_on, field, parsed, answered_lines}
use Rattle.rules.proofs.Choices.{branch, both}
use Rattle.rules.proofs.Digits.{digits_parts}
use Rattle.tree.specs.Sheets.{Unbroken, TOO_LONG}
use Rattle.tree.proofs.SheetLines.{lines_joined, unbroken_tail, unbroken_take}

-- ---- two digits

read_two : (bs : List ℕ) → digits bs ≡ true → read_on 0 (take 2 bs) < 256
unfolding digits read_on
read_two [] d = omega arith
read_two (b ∷ []) d = omega (arith, ltb-true (nibble b) 16 (both (ltb (nibble b) 16) true d).0)
read_two (b ∷ c ∷ bs) d =
    let (first, d) = both (ltb (nibble b) 16) _ d in
    let (second, d) = both (ltb (nibble c) 16) (digits bs) d in
    omega (arith, ltb-true (nibble b) 16 first, ltb-true (nibble c) 16 second)

-- Two digits stand for a byte.
pub field_byte : (line : List ℕ) (i : ℕ) → digits line ≡ true → field line i 2 < 256
unfolding field
field_byte line i d = read_two (drop i line) (digits_parts i line d).1

-- ---- a line

-- The length field is at most 255.
pub long_line : (l : List ℕ) → TOO_LONG ≤ length l → parsed l ≡ none
unfolding parsed
long_line l h = branch (λ o. o ≡ none) (digits l && eqb (length l) (12 + 2 * field l 2 2))
    (λ y. let (d, e) = both (digits l) _ y in absurd (omega (arith, field_byte l 2 d, eqb-true (length l) _ e)))
    (λ _. refl)

-- ---- bytes in front of a sheet

-- In front of its first line; where there is none, they are a line of their own.
abbrev infront : List ℕ → List (List ℕ) → List (List ℕ)
infront p [] = p ∷ []
infront p (l ∷ ls) = (p ++ l) ∷ ls

infront_more : (b c : ℕ) (p : List ℕ) (ls : List (List ℕ)) → joined b (infront (c ∷ p) ls) ≡ infront (b ∷ c ∷ p) ls
unfolding joined
infront_more b c p [] = refl
infront_more b c p (l ∷ ls) = refl

joined_one : (b : ℕ) (ls : List (List ℕ)) → joined b ls ≡ infront (b ∷ []) ls
unfolding joined
joined_one b [] = refl
joined_one b (l ∷ ls) = refl

lines_infront : (p rest : List ℕ) → 1 ≤ length p → Unbroken p → sheet_lines (p ++ rest) ≡ infront p (sheet_lines rest)
lines_infront [] rest h u = absurd (omega arith)
lines_infront (b ∷ []) rest h u = lines_joined b rest (u 0 (omega arith)) ∙ joined_one b (sheet_lines rest)
lines_infront (b ∷ c ∷ p) rest h u = lines_joined b (c ∷ p ++ rest) (u 0 (omega arith)) ∙
    ap (joined b) (lines_infront (c ∷ p) rest (omega arith) (unbroken_tail b (c ∷ p) u)) ∙ infront_more b c p (sheet_lines rest)

module _ (P : Profile) (last : ℕ) (t : Table) where
  long_infront : (p q : List ℕ) (ls : List (List ℕ)) → TOO_LONG ≤ length p → TOO_LONG ≤ length q →
      answered_lines P last t (infront p ls) ≡ answered_lines P last t (infront q ls)
  unfolding answered_lines
  long_infront p q [] h k = rw (long_line p h, long_line q k)
  long_infront p q (l ∷ ls) h k =
      rw (long_line (p ++ l) (rw length-append (omega arith)), long_line (q ++ l) (rw length-append (omega arith)))

  -- What is past the first 523 bytes does not matter.
  pub shortened : (p rest : List ℕ) → Unbroken p →
      answered_lines P last t (sheet_lines (p ++ rest)) ≡ answered_lines P last t (sheet_lines (take TOO_LONG p ++ rest))
  shortened p rest u = ⊎_elim (λ (h : length p < TOO_LONG). rw (take_all TOO_LONG p (omega arith))) long (lt_or_ge (length p) TOO_LONG)
    where
      long : TOO_LONG ≤ length p → answered_lines P last t (sheet_lines (p ++ rest)) ≡ answered_lines P last t (sheet_lines (take TOO_LONG p ++ rest))
      long h =
          let q = take TOO_LONG p in
          let n = length-take-le TOO_LONG p h in
          rw (lines_infront p rest (omega arith) u, lines_infront q rest (omega arith) (unbroken_take TOO_LONG p u))
          (long_infront p q (sheet_lines rest) h (omega arith))

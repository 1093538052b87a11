-- A line that is a command is all digits and has the length that it says; where the rest of a sheet does not begin with such a line, its
-- first line is no command. Assumes nothing.
use mathlib.Core.Path.{◌≡◌, refl, sym, ap, ap₂, ◌∙◌}
use mathlib.Core.Logic.{⊎_elim}
use mathlib.Core.Bool.{Bool, true, false, ◌&&◌, true≢false}
use mathlib.Core.List.{List, ◌∷◌}
use mathlib.Core.Option.{none}
use Rattle.std.specs.Prelude.{Some, None}
use Prim.Native.Nat.{ℕ, zero, suc, ◌+◌, ◌*◌, ◌-◌, ◌≤◌, ◌<◌, min}
use native.Mathlib.Omega.{arith}
use lib.ListN.{length, get_or, take, drop, length-take, length-drop}
use lib.Seq.{length-take-le, take-add, take-take, drop-drop}
use lib.Dec.{eqb}
use borrow.Author.Tests.{eq-eqb, eqb-true, lt-ltb, le-ltb}
use Rattle.numbers.proofs.Cases.{lt_or_ge}
use Rattle.rules.specs.Listing.{LF}
use Rattle.rules.specs.ARun.{digits, read_on, field, pairs, command_of, parsed}
use Rattle.rules.proofs.Choices.{branch, both, join}
use Rattle.rules.proofs.Digits.{digits_append, digits_parts}
use Rattle.rules.proofs.Texts.{drop_take}
use Rattle.tree.specs.Sheets.{FirstLine}
use Rattle.tree.proofs.SheetLines.{digits_unbroken}
use Rattle.text.specs.Reading.{NumberRead, CharactersRead}
use Rattle.text.proofs.DigitsRead.{is_number, number_is, no_number}
use Rattle.sheets.specs.Reading.{is_end}

-- ---- a part of a part

-- k bytes from i on, of the first e.
part_same : (s : List ℕ) (e i k : ℕ) → i + k ≤ e → take k (drop i (take e s)) ≡ take k (drop i s)
part_same s e i k l = ap (take k) (drop_take i e s) ∙ take-take k (e - i) (drop i s) (omega arith)

module _ (s : List ℕ) (e : ℕ) where
  field_same : (i k : ℕ) → i + k ≤ e → field (take e s) i k ≡ field s i k
  unfolding field
  field_same i k l = ap (read_on 0) (part_same s e i k l)

  pairs_same : (n i : ℕ) → i + 2 * n ≤ e → pairs (take e s) i n ≡ pairs s i n
  unfolding pairs
  pairs_same zero i l = refl
  pairs_same (suc n) i l = ap₂ ◌∷◌ (field_same i 2 (omega arith)) (pairs_same n (i + 2) (omega arith))

-- Pairs from j on, of what is behind the first i bytes.
pairs_drop : (s : List ℕ) (i n j : ℕ) → pairs (drop i s) j n ≡ pairs s (i + j) n
unfolding pairs field
pairs_drop s i zero j = refl
pairs_drop s i (suc n) j = ap₂ ◌∷◌ (ap (λ (t : List ℕ). read_on 0 (take 2 t)) (drop-drop j i s)) (pairs_drop s i n (j + 2) ∙ ap (λ (k : ℕ). pairs s k n) (omega arith))

-- ---- where a line can end

module _ (rest : List ℕ) (end : ℕ) where
  pub end_is : is_end rest end ≡ true → (end ≤ length rest) × (end < length rest → get_or rest end 0 ≡ LF)
  end_is y = ⊎_elim
      (λ (h : end < length rest). (omega arith, λ _. eqb-true (get_or rest end 0) LF (rw (lt-ltb end (length rest) h) at y)))
      (λ (h : length rest ≤ end). let e : length rest ≡ end = eqb-true (length rest) end (rw (le-ltb end (length rest) h) at y) in (omega arith, λ l. absurd (omega arith)))
      (lt_or_ge end (length rest))

  is_end_lem : end ≤ length rest → (end < length rest → get_or rest end 0 ≡ LF) → is_end rest end ≡ true
  is_end_lem w f = ⊎_elim
      (λ (h : end < length rest). rw (lt-ltb end (length rest) h) (eq-eqb (get_or rest end 0) LF (f h)))
      (λ (h : length rest ≤ end). rw (le-ltb end (length rest) h) (eq-eqb (length rest) end (omega arith)))
      (lt_or_ge end (length rest))

-- ---- a line that is framed

module _ (rest : List ℕ) where
  -- The value of the length field, and where the line then ends.
  abbrev pub length_field : ℕ
  length_field = field rest 2 2

  abbrev pub line_end : ℕ
  line_end = 12 + 2 * length_field

  -- The rest begins with a line of digits that has the length that it says.
  pub record Framed : Type 0 where
    pub long : 12 ≤ length rest
    pub operation : digits (take 2 rest) ≡ true
    pub len : digits (take 2 (drop 2 rest)) ≡ true
    pub ends : is_end rest line_end ≡ true
    pub characters : digits (take (2 * length_field) (drop 4 rest)) ≡ true
    pub number : digits (take 8 (drop (line_end - 8) rest)) ≡ true

module _ (rest : List ℕ) where
  abbrev n : ℕ
  n = length_field rest

  abbrev end : ℕ
  end = line_end rest

  module _ (f : Framed rest) where
    all_digits : digits (take end rest) ≡ true
    all_digits =
        let m : end ≡ 2 + (2 + (2 * n + 8)) = omega arith in
        let k : 4 + 2 * n ≡ end - 8 = omega arith in
        rw (m, take-add 2 (2 + (2 * n + 8)) rest, digits_append, take-add 2 (2 * n + 8) (drop 2 rest), digits_append, drop-drop, take-add (2 * n) 8 (drop 4 rest), digits_append, drop-drop, k)
        (join f.operation (join f.len (join f.characters f.number)))

    pub framed_first : FirstLine rest end
    framed_first =
        let (w, g) = end_is rest end f.ends in
        record { within = w; unbroken = digits_unbroken (take end rest) all_digits; ended = g }

    pub framed_command : parsed (take end rest) ≡ command_of (field rest 0 2) n (pairs rest 4 n) (field rest (end - 8) 8)
    unfolding parsed
    framed_command =
        let w = (end_is rest end f.ends).0 in
        let k : 4 + 2 * n ≡ end - 8 = omega arith in
        rw (
          field_same rest end 2 2 (omega arith),
          all_digits,
          eq-eqb (length (take end rest)) end (length-take-le end rest w),
          field_same rest end 0 2 (omega arith),
          pairs_same rest end n 4 (omega arith),
          field_same rest end (4 + 2 * n) 8 (omega arith),
          k,
        )

  module _ {e : ℕ} (first : FirstLine rest e) where
    abbrev line : List ℕ
    line = take e rest

    -- A line that is a command frames the rest.
    frame : (digits line && eqb (length line) (12 + 2 * field line 2 2)) ≡ true → Framed rest
    frame y =
        let (d, s) = both (digits line) _ y in
        let w = first.within in
        let is : e ≡ 12 + 2 * field line 2 2 = sym (length-take-le e rest w) ∙ eqb-true (length line) _ s in
        let same : field line 2 2 ≡ n = field_same rest e 2 2 (omega arith) in
        let at : e ≡ end = is ∙ ap (λ (m : ℕ). 12 + 2 * m) same in
        let part : (i k : ℕ) → i + k ≤ e → digits (take k (drop i rest)) ≡ true = λ i k l. sym (ap digits (part_same rest e i k l)) ∙ (digits_parts k (drop i line) (digits_parts i line d).1).0 in
        record {
          long = omega arith;
          operation = part 0 2 (omega arith);
          len = part 2 2 (omega arith);
          ends = rw (← at) (is_end_lem rest e w first.ended);
          characters = part 4 (2 * n) (omega arith);
          number = part (end - 8) 8 (omega arith);
        }

    pub not_framed : (Framed rest → ⊥) → parsed line ≡ none
    unfolding parsed
    not_framed unframed = branch (λ o. o ≡ none) (digits line && eqb (length line) (12 + 2 * field line 2 2)) (λ y. absurd (unframed (frame y))) (λ _. refl)

-- ---- what is read

clash : {b : Bool} → b ≡ true → b ≡ false → ⊥
clash y f = true≢false (sym y ∙ f)

module _ (rest : List ℕ) where
  pub too_short : length rest < 12 → Framed rest → ⊥
  too_short h f = omega (arith, f.long)

  pub no_operation : NumberRead (take 2 rest) None → Framed rest → ⊥
  no_operation r f = clash f.operation (no_number r)

  pub no_length : NumberRead (take 2 (drop 2 rest)) None → Framed rest → ⊥
  no_length r f = clash f.len (no_number r)

  module _ {len : ℕ} (l : NumberRead (take 2 (drop 2 rest)) (Some len)) where
    length_is : len ≡ length_field rest
    unfolding field
    length_is = number_is l

    pub no_end : is_end rest (12 + 2 * len) ≡ false → Framed rest → ⊥
    no_end e f = clash f.ends (rw length_is at e)

    module _ {k : ℕ} (characters : k ≡ 2 * len) where
      pub no_characters : {key : List ℕ} → CharactersRead (take k (drop 4 rest)) key None → Framed rest → ⊥
      no_characters r f = clash f.characters (sym (rw (characters, length_is) at r.is))

    module _ {i k : ℕ} (behind : i ≡ 4 + 2 * len) (eight : k ≡ 8) where
      pub no_last_number : NumberRead (take k (drop i rest)) None → Framed rest → ⊥
      no_last_number r f =
          let e : i ≡ line_end rest - 8 = omega (arith, length_is) in
          clash f.number (rw (eight, e) at (no_number r))

    pub fields_read : {operation number : ℕ} {key : List ℕ} (i k k' : ℕ) → 12 ≤ length rest → NumberRead (take 2 rest) (Some operation) →
        is_end rest (12 + 2 * len) ≡ true → CharactersRead (take k (drop 4 rest)) key (Some tt) → k ≡ 2 * len → length key ≡ min len 255 →
        NumberRead (take k' (drop i rest)) (Some number) → k' ≡ 8 → i ≡ 4 + 2 * len →
        FirstLine rest (12 + 2 * len) × (parsed (take (12 + 2 * len) rest) ≡ command_of operation (length key) key number)
    unfolding field
    fields_read {key = key} i k k' long o ends c is whole m eight behind =
        let two : length (take 2 (drop 2 rest)) ≡ 2 = omega (arith, length-take 2 (drop 2 rest), length-drop 2 rest) in
        let few : len < 256 = rw two at l.small in
        let e : i ≡ line_end rest - 8 = omega (arith, length_is) in
        let chars : CharactersRead (take (2 * length_field rest) (drop 4 rest)) key (Some tt) = rw (is, length_is) at c in
        let last : NumberRead (take 8 (drop (line_end rest - 8) rest)) (Some _) = rw (eight, e) at m in
        let framed : Framed rest = record {
          long = long;
          operation = is_number o;
          len = is_number l;
          ends = rw length_is at ends;
          characters = sym chars.is;
          number = is_number last;
        } in
        let spelt : length key ≡ length_field rest = omega (arith, length_is) in
        let key_is : key ≡ pairs rest 4 (length_field rest) =
        rw spelt at chars.read ∙ pairs_same (drop 4 rest) (2 * length_field rest) (length_field rest) 0 (omega arith) ∙ pairs_drop rest 4 (length_field rest) 0 in
        (rw length_is (framed_first rest framed), rw (length_is, number_is o, spelt, key_is, number_is last) (framed_command rest framed))

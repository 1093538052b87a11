-- Hexadecimal digits that are read: one more digit of a number, one more character of two. Assumes nothing.
use mathlib.Core.Path.{◌≡◌, refl, sym, ap, ap₂, ◌∙◌}
use mathlib.Core.Bool.{true, false, ◌&&◌}
use mathlib.Core.List.{List, [], ◌∷◌, ◌++◌, append_assoc, append-nil}
use Prim.Native.Nat.{ℕ, zero, suc, ◌+◌, ◌*◌, ◌-◌, ◌≤◌, ◌<◌, ◌^◌}
use native.Mathlib.Nat.{pow-suc, pow-le-pow_right}
use native.Mathlib.Numerals.{add-one}
use native.Mathlib.Omega.{arith}
use lib.ListN.{length, get_or, take, drop, set, drop_of_length-le, length-append, length-set}
use lib.Seq.{drop-cons, drop-drop, drop_at, take_at, take_all, take-suc-set}
use borrow.Author.Tests.{lt-ltb}
use Rattle.std.specs.Prelude.{Some, None}
use Rattle.rules.specs.Ranges.{within}
use Rattle.rules.specs.ARun.{nibble, digits, read_on, field, pairs}
use Rattle.rules.proofs.Choices.{fails, passes}
use Rattle.rules.proofs.Digits.{digits_append}
use Rattle.rules.proofs.Texts.{none_left}
use Rattle.rules.proofs.Ranges.{inside, above, within_is}
use Rattle.text.specs.Reading.{NumberRead, CharactersRead}

-- ---- a digit

outside : (low high n : ℕ) → (low ≤ n → high < n) → within low high n ≡ false
outside low high n f = fails (within low high n) (λ y. let i = within_is low high n y in omega (arith, f i.0))

module _ (b : ℕ) where
  numeral : 48 ≤ b → b ≤ 57 → nibble b ≡ b - 48
  unfolding nibble
  numeral l h = rw (inside 48 57 b l h)

  letter : 97 ≤ b → b ≤ 102 → nibble b ≡ b - 87
  unfolding nibble
  letter l h = rw (above 48 57 b (omega arith), inside 97 102 b l h)

  neither : (48 ≤ b → 57 < b) → (97 ≤ b → 102 < b) → nibble b ≡ 16
  unfolding nibble
  neither l m = rw (outside 48 57 b l, outside 97 102 b m)

digits_more : (b : ℕ) (bs : List ℕ) → nibble b < 16 → digits (b ∷ bs) ≡ digits bs
unfolding digits
digits_more b bs h = rw (lt-ltb (nibble b) 16 h)

digits_none : (b : ℕ) (bs : List ℕ) → nibble b ≡ 16 → digits (b ∷ bs) ≡ false
unfolding digits
digits_none b bs e = rw e

-- ---- a number

module _ (bytes : List ℕ) where
  -- What is left to read, after j digits that say n, comes to the whole.
  pub record Going (n j : ℕ) : Type 0 where
    pub within : j ≤ length bytes
    pub small : n < 16 ^ j
    pub digits_left : digits (drop j bytes) ≡ digits bytes
    pub number_left : read_on n (drop j bytes) ≡ read_on 0 bytes

  module _ {n j : ℕ} (g : Going n j) where
    pub all_read : length bytes ≤ j → NumberRead bytes (Some n)
    unfolding digits read_on
    all_read h =
        let none = drop_of_length-le bytes {i = j} h in
        let same : j ≡ length bytes = omega (arith, g.within) in
        record { is = rw (← g.digits_left, ← g.number_left, none); small = rw same at g.small }

    module _ (h : j < length bytes) where
      abbrev b : ℕ
      b = get_or bytes j 0

      front : drop j bytes ≡ b ∷ drop (j + 1) bytes
      front = rw add-one (drop-cons bytes j 0 h)

      pub number_fits : length bytes ≤ 8 → n * 16 + 15 < 4294967296
      number_fits few =
          let p : 16 ^ (j + 1) ≤ 16 ^ 8 = pow-le-pow_right {n = 16} (omega arith) {i = j + 1} {j = 8} (omega arith) in
          let q : 16 ^ (j + 1) ≡ 16 ^ j * 16 = rw (add-one, pow-suc) in
          omega (arith, g.small)

      pub not_read : (48 ≤ b → 57 < b) → (97 ≤ b → 102 < b) → NumberRead bytes None
      not_read l m = record { is = rw (← g.digits_left, front, digits_none b _ (neither b l m)); small = tt }

      -- d is what the digit stands for.
      going_more : {d : ℕ} → nibble b ≡ d → d < 16 → Going (n * 16 + d) (j + 1)
      unfolding read_on
      going_more is small =
          let low : nibble b < 16 = omega arith in
          rw (← is) (record {
            within = omega arith;
            small = rw (add-one, pow-suc) (omega (arith, g.small));
            digits_left = sym (ap digits front ∙ digits_more b _ low) ∙ g.digits_left;
            number_left = sym (ap (read_on n) front) ∙ g.number_left;
          })

      pub numeral_read : {m : ℕ} → 48 ≤ b → b ≤ 57 → m ≡ n * 16 + (b - 48) → Going m (j + 1)
      numeral_read l u is = rw is (going_more (numeral b l u) (omega arith))

      pub letter_read : {m : ℕ} → 97 ≤ b → b ≤ 102 → m ≡ n * 16 + (b - 87) → Going m (j + 1)
      letter_read l u is = rw is (going_more (letter b l u) (omega arith))

-- ---- what was read

module _ {bytes : List ℕ} where
  pub is_number : {n : ℕ} → NumberRead bytes (Some n) → digits bytes ≡ true
  is_number r = passes (digits bytes) (λ no. cc (rw no at r.is))

  pub number_is : {n : ℕ} → NumberRead bytes (Some n) → n ≡ read_on 0 bytes
  number_is r = let yes = is_number r in cc (rw yes at r.is)

  pub no_number : NumberRead bytes None → digits bytes ≡ false
  no_number r = fails (digits bytes) (λ yes. cc (rw yes at r.is))

-- ---- characters

-- Behind a first pair of digits.
module _ (pair more : List ℕ) (two : length pair ≡ 2) where
  field_first : field (pair ++ more) 0 2 ≡ read_on 0 pair
  unfolding field
  field_first = ap (read_on 0) (take_at pair more 2 two)

  field_behind : (i : ℕ) → field (pair ++ more) (i + 2) 2 ≡ field more i 2
  unfolding field
  field_behind i =
      let e : i + 2 ≡ 2 + i = omega arith in
      rw (e, ← drop-drop i 2 (pair ++ more), drop_at pair more 2 two)

  pairs_behind : (n i : ℕ) → pairs (pair ++ more) (i + 2) n ≡ pairs more i n
  unfolding pairs
  pairs_behind zero i = refl
  pairs_behind (suc n) i = ap₂ ◌∷◌ (field_behind i) (pairs_behind n (i + 2))

module _ (bytes : List ℕ) where
  -- What is left to read, after j characters at the front of the key, comes to the whole.
  pub record Spelling (key left : List ℕ) (j : ℕ) : Type 0 where
    pub long : 2 * j + length left ≡ 2 * length key
    pub digits_left : digits left ≡ digits bytes
    pub characters_left : take j key ++ pairs left 0 (length key - j) ≡ pairs bytes 0 (length key)

  module _ {key left : List ℕ} {j : ℕ} (s : Spelling key left j) where
    pub all_spelt : length left < 2 → CharactersRead bytes key (Some tt)
    unfolding digits pairs
    all_spelt h =
        let none : left ≡ [] = none_left left (omega (arith, s.long)) in
        let all : take j key ≡ key = take_all j key (omega (arith, s.long)) in
        let last : length key - j ≡ 0 = omega (arith, s.long) in
        record {
          is = rw none at s.digits_left;
          read = rw (last, all, append-nil) at s.characters_left;
        }

    module _ (pair more : List ℕ) (split : left ≡ pair ++ more) where
      on : digits bytes ≡ (digits pair && digits more)
      on = sym s.digits_left ∙ ap digits split ∙ digits_append pair more

      pub not_spelt : NumberRead pair None → CharactersRead bytes key None
      not_spelt r = record { is = sym (rw (no_number r) at on); read = tt }

      pub spelling_more : length pair ≡ 2 → {n : ℕ} → NumberRead pair (Some n) → Spelling (set key j n) more (j + 1)
      unfolding pairs
      spelling_more two {n} r =
          let long : length left ≡ 2 + length more = ap length split ∙ length-append pair more ∙ rw two in
          let room : j < length key = omega (arith, s.long) in
          let m : length key - j ≡ suc (length key - (j + 1)) = omega arith in
          let next : pairs left 0 (length key - j) ≡ n ∷ pairs more 0 (length key - (j + 1)) =
          rw (split, m, field_first pair more two, pairs_behind pair more two (length key - (j + 1)) 0, number_is r) in
          record {
            long = rw length-set (omega (arith, s.long));
            digits_left = sym (rw (is_number r) at on);
            characters_left = rw (add-one, length-set, take-suc-set key j n room, append_assoc) (rw add-one at (sym (ap (λ (r : List ℕ). take j key ++ r) next) ∙ s.characters_left));
          }

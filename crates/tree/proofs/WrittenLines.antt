-- Every command whose text and number the fields can hold is the command of the line that is written for it. Assumes nothing.
use mathlib.Core.Path.{◌≡◌, refl, sym, ap, ap₂, ◌∙◌}
use mathlib.Core.Logic.{⊎_elim}
use mathlib.Core.Bool.{true}
use mathlib.Core.List.{List, [], ◌∷◌, ◌++◌, append_assoc, append-nil}
use mathlib.Core.Option.{some}
use Prim.Native.Nat.{ℕ, zero, suc, ◌+◌, ◌*◌, ◌/◌, ◌%◌, ◌^◌, ◌≤◌, ◌<◌}
use native.Mathlib.Nat.{pow-suc, mul_assoc, div-lt_iff_lt-mul}
use native.Mathlib.Omega.{arith}
use lib.ListN.{length, get_or, length-append}
use lib.Seq.{take_at, drop_at}
use lib.Dec.{ltb}
use borrow.Author.Tests.{lt-ltb, le-ltb, eq-eqb}
use Rattle.numbers.proofs.Cases.{lt_or_ge}
use Rattle.rules.specs.Listing.{digit, hex, hexes, LF}
use Rattle.rules.specs.Commands.{Command, insert, delete, find, compact}
use Rattle.rules.specs.ARun.{sheet_lines, nibble, digits, read_on, field, pairs, command_of, parsed}
use Rattle.rules.proofs.Choices.{join}
use Rattle.rules.proofs.Ranges.{inside, above}
use Rattle.rules.proofs.Digits.{length_hex, length_hexes}
use Rattle.tree.specs.WrittenLines.{four_fields, command_line, Bytes, EightDigits, Writable}
use Rattle.tree.proofs.SheetLines.{lines_feed, digits_unbroken}

-- ---- digits

nibble_digit : (d : ℕ) → d < 16 → nibble (digit d) ≡ d
unfolding nibble digit
nibble_digit d h = ⊎_elim
    (λ (l : d < 10). rw (lt-ltb d 10 l, inside 48 57 (48 + d) (omega arith) (omega arith)) (omega arith))
    (λ (l : 10 ≤ d). rw (le-ltb d 10 l, above 48 57 (87 + d) (omega arith), inside 97 102 (87 + d) (omega arith) (omega arith)) (omega arith))
    (lt_or_ge d 10)

digit_digit : (d : ℕ) → d < 16 → ltb (nibble (digit d)) 16 ≡ true
digit_digit d h = rw (nibble_digit d h) (lt-ltb d 16 h)

hex_digits : (k n : ℕ) (rest : List ℕ) → digits rest ≡ true → digits (hex k n ++ rest) ≡ true
unfolding hex digits
hex_digits zero n rest h = h
hex_digits (suc k) n rest h =
    rw append_assoc (hex_digits k (n / 16) (digit (n % 16) ∷ rest) (join (digit_digit (n % 16) (omega arith)) h))

hexes_digits : (key rest : List ℕ) → digits rest ≡ true → digits (hexes key ++ rest) ≡ true
unfolding hexes
hexes_digits [] rest h = h
hexes_digits (b ∷ key) rest h = rw append_assoc (hex_digits 2 b (hexes key ++ rest) (hexes_digits key rest h))

fields_digits : (operation : ℕ) (key : List ℕ) (n : ℕ) → digits (four_fields operation key n) ≡ true
unfolding four_fields digits
fields_digits operation key n =
    hex_digits 2 operation _ (hex_digits 2 (length key) _ (hexes_digits key _ (rw append-nil at (hex_digits 8 n [] refl))))

-- ---- a number, read back

read_hex_then : (k acc n : ℕ) (rest : List ℕ) → n < 16 ^ k → read_on acc (hex k n ++ rest) ≡ read_on (acc * 16 ^ k + n) rest
unfolding hex read_on
read_hex_then zero acc n rest h = ap (λ (m : ℕ). read_on m rest) (omega arith)
read_hex_then (suc k) acc n rest h =
    let q : n / 16 < 16 ^ k = (div-lt_iff_lt-mul {k = 16} (omega arith)).1 (rw pow-suc at h) in
    let e : acc * 16 ^ suc k ≡ acc * 16 ^ k * 16 = ap (λ (m : ℕ). acc * m) (pow-suc 16 k) ∙ sym (mul_assoc acc (16 ^ k) 16) in
    let d : nibble (digit (n % 16)) ≡ n % 16 = nibble_digit (n % 16) (omega arith) in
    rw append_assoc (read_hex_then k acc (n / 16) (digit (n % 16) ∷ rest) q ∙ ap (λ (m : ℕ). read_on m rest) (omega arith))

read_hex : (k n : ℕ) → n < 16 ^ k → read_on 0 (hex k n) ≡ n
unfolding read_on
read_hex k n h = ap (read_on 0) (sym (append-nil (hex k n))) ∙ read_hex_then k 0 n [] h ∙ omega arith

-- ---- the fields

field_at : (p : List ℕ) (k n : ℕ) (rest : List ℕ) {i : ℕ} → length p ≡ i → n < 16 ^ k → field (p ++ (hex k n ++ rest)) i k ≡ n
unfolding field
field_at p k n rest {i} e h = rw (drop_at p (hex k n ++ rest) i e, take_at (hex k n) rest k (length_hex k n)) (read_hex k n h)

pairs_at : (p key rest : List ℕ) {i : ℕ} → length p ≡ i → ((k : ℕ) → k < length key → get_or key k 0 < 256) →
    pairs (p ++ (hexes key ++ rest)) i (length key) ≡ key
unfolding pairs hexes hex
pairs_at p [] rest e h = refl
pairs_at p (b ∷ key) rest {i} e h =
    let e' : length (p ++ hex 2 b) ≡ i + 2 = rw (length-append, length_hex, e) in
    let on = pairs_at (p ++ hex 2 b) key rest e' (λ k l. h (suc k) (omega arith)) in
    rw append_assoc (ap₂ ◌∷◌ (field_at p 2 b (hexes key ++ rest) e (h 0 (omega arith))) (rw append_assoc at on))

module _ (operation : ℕ) (low : operation < 256) (key : List ℕ) (b : Bytes key) (n : ℕ) (small : EightDigits n) where
  abbrev line : List ℕ
  line = four_fields operation key n

  read_operation : field line 0 2 ≡ operation
  unfolding four_fields
  read_operation = field_at [] 2 operation _ refl low

  read_length : field line 2 2 ≡ length key
  unfolding four_fields
  read_length = field_at (hex 2 operation) 2 (length key) _ (length_hex 2 operation) b.few

  read_key : pairs line 4 (length key) ≡ key
  unfolding four_fields
  read_key =
      let p = hex 2 operation ++ hex 2 (length key) in
      let e : length p ≡ 4 = simp (length-append, length_hex) in
      rw append_assoc at (pairs_at p key (hex 8 n) e b.small)

  read_number : field line (4 + 2 * length key) 8 ≡ n
  unfolding four_fields
  read_number =
      let p = hex 2 operation ++ (hex 2 (length key) ++ hexes key) in
      let e : length p ≡ 4 + 2 * length key = simp (length-append, length_hex, length_hexes) (omega arith) in
      simp (append_assoc, append-nil) at (field_at p 8 n [] e small)

  long : length line ≡ 12 + 2 * length key
  unfolding four_fields
  long = simp (length-append, length_hex, length_hexes) (omega arith)

  fields_parsed : parsed line ≡ command_of operation (length key) key n
  unfolding parsed
  fields_parsed = rw (read_length, fields_digits operation key n, long, eq-eqb (12 + 2 * length key) _ refl, read_operation, read_key, read_number)

-- ---- the lines

-- Every command has a line.
pub written_parsed : (c : Command) → Writable c → parsed (command_line c) ≡ some c
unfolding command_line command_of
written_parsed (insert key n) (b, h) = fields_parsed 1 (omega arith) key b n h
written_parsed (delete key) b = fields_parsed 2 (omega arith) key b 0 (omega arith)
written_parsed (find key) b = fields_parsed 3 (omega arith) key b 0 (omega arith)
written_parsed (compact n) h = fields_parsed 4 (omega arith) [] (record { few = omega arith; small = λ k l. absurd (omega arith) }) n h

-- With a line feed behind it, it is the sheet's next line.
pub written_line : (c : Command) (rest : List ℕ) → sheet_lines (command_line c ++ (LF ∷ rest)) ≡ command_line c ∷ sheet_lines rest
unfolding command_line
written_line c rest = lines_feed (command_line c) rest (digits_unbroken (command_line c) (all_digits c))
  where
    all_digits : (c : Command) → digits (command_line c) ≡ true
    all_digits (insert key n) = fields_digits 1 key n
    all_digits (delete key) = fields_digits 2 key 0
    all_digits (find key) = fields_digits 3 key 0
    all_digits (compact n) = fields_digits 4 [] n

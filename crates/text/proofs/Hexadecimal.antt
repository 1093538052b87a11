-- Hexadecimal text: how long a line is, and that a number is written digit by digit, a text character by character and a line part by part.
-- Assumes nothing.
use mathlib.Core.Path.{◌≡◌, refl}
use mathlib.Core.Bool.{Bool}
use mathlib.Core.List.{List, [], ◌∷◌}
use Prim.Native.Nat.{ℕ, zero, suc, ◌+◌, ◌*◌, ◌-◌, ◌/◌, ◌%◌, ◌<◌}
use native.Mathlib.Numerals.{add-one, sub-one}
use native.Mathlib.Omega.{arith}
use lib.ListN.{length, set, get_or, drop}
use lib.Seq.{sets, drop-cons}
use lib.Dec.{eqb}
use borrow.Author.Tests.{eqb-true}
use Rattle.rules.specs.Ranges.{each_to}
use Rattle.rules.specs.Answers.{Answer, number, value}
use Rattle.rules.specs.ARun.{answer_bytes}
use Rattle.rules.specs.Listing.{Entry, digit, hex, hexes, LF, line_of}
use Rattle.rules.proofs.Ranges.{each_to_lem}
use Rattle.rules.proofs.Digits.{length_hex, length_hexes}
use Rattle.text.proofs.Sets.{sets_append, sets_then, sets_set_past}

-- ---- digits

-- The characters 0-9 and a-f are the digits, by a test that is computed at each of them.
unfoldable pub digits : List ℕ
digits = 48 ∷ 49 ∷ 50 ∷ 51 ∷ 52 ∷ 53 ∷ 54 ∷ 55 ∷ 56 ∷ 57 ∷ 97 ∷ 98 ∷ 99 ∷ 100 ∷ 101 ∷ 102 ∷ []

right : ℕ → Bool
right k = eqb (get_or digits (k - 1) 0) (digit (k - 1))

pub each_digit : (n : ℕ) → n < 16 → get_or digits n 0 ≡ digit n
unfolding digits right digit each_to
each_digit n h =
    let e : suc n - 1 ≡ n = omega arith in
    rw e at (eqb-true (get_or digits (suc n - 1) 0) (digit (suc n - 1)) (each_to_lem right 16 refl (suc n) (omega arith) (omega arith)))

-- The last digit, which has the place d among them, and the others before it, which say m.
pub hex_step : (l : List ℕ) (at k n : ℕ) {d m : ℕ} → 0 < k → d ≡ n % 16 → m ≡ n / 16 →
    sets (set l (at + (k - 1)) (get_or digits d 0)) at (hex (k - 1) m) ≡ sets l at (hex k n)
unfolding hex
hex_step l at zero n h place others = absurd (omega arith)
hex_step l at (suc k) n h place others =
    let long : length (hex k (n / 16)) ≡ k = length_hex k (n / 16) in
    rw (place, others, each_digit (n % 16) (omega arith), sub-one, sets_append, long) (sets_set_past l at (at + k) (hex k (n / 16)) (digit (n % 16)) (omega (arith, long)))

-- ---- characters

-- The character i, and the rest after it.
pub hexes_step : (l key : List ℕ) (at i : ℕ) → i < length key →
    sets (sets l (at + 2 * i) (hex 2 (get_or key i 0))) (at + 2 * (i + 1)) (hexes (drop (i + 1) key)) ≡
    sets l (at + 2 * i) (hexes (drop i key))
unfolding hexes
hexes_step l key at i h = rw (add-one, drop-cons key i 0 h) (sets_then l _ _ (hex 2 (get_or key i 0)) _ (rw length_hex (omega arith)))

-- ---- lines

-- The four parts of a line, one after the other.
pub line_parts : (l : List ℕ) (e : Entry) → let end = 2 + 2 * length e.key in
    set (sets (sets (sets l 0 (hex 2 (length e.key))) 2 (hexes e.key)) end (hex 8 e.row)) (end + 8) LF ≡ sets l 0 (line_of e)
unfolding line_of
line_parts l e = simp (sets_append, length_hex, length_hexes)

-- The three parts of an answer, one after the other.
pub answer_parts : (l : List ℕ) (a : Answer) → set (sets (sets l 0 (hex 2 (number a))) 2 (hex 8 (value a))) 10 LF ≡ sets l 0 (answer_bytes a)
unfolding answer_bytes
answer_parts l a = simp (sets_append, length_hex)

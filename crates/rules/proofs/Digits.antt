-- Hexadecimal text: how long it is, and what its parts are. Assumes nothing.
use mathlib.Core.Path.{◌≡◌, refl, sym, ap, ◌∙◌}
use mathlib.Core.Bool.{Bool, true, false, ◌&&◌}
use mathlib.Core.List.{List, [], ◌∷◌, ◌++◌, append_assoc, append-nil}
use Prim.Native.Nat.{ℕ, zero, suc, ◌+◌, ◌*◌, ◌/◌}
use native.Mathlib.Omega.{arith}
use lib.ListN.{length, take, drop, length-append, take-append-drop}
use lib.Dec.{ltb}
use Rattle.rules.specs.Listing.{Entry, hex, hexes, line_of, lines_of}
use Rattle.rules.specs.ARun.{nibble, digits, answer_bytes}
use Rattle.rules.proofs.Choices.{both}
use Rattle.rules.specs.Answers.{Answer}

-- ---- how long

pub length_hex : (k n : ℕ) → length (hex k n) ≡ k
unfolding hex
length_hex zero n = refl
length_hex (suc k) n = rw (length-append, length_hex k (n / 16)) (omega arith)

pub length_hexes : (key : List ℕ) → length (hexes key) ≡ 2 * length key
unfolding hexes
length_hexes [] = refl
length_hexes (b ∷ key) = rw (length-append, length_hex, length_hexes key) (omega arith)

pub length_answer : (a : Answer) → length (answer_bytes a) ≡ 11
unfolding answer_bytes
length_answer a = simp (length-append, length_hex)

pub length_line : (e : Entry) → length (line_of e) ≡ 11 + 2 * length e.key
unfolding line_of
length_line e = simp (length-append, length_hex, length_hexes) (omega arith)

-- ---- lines

pub lines_append : (es fs : List Entry) → lines_of (es ++ fs) ≡ lines_of es ++ lines_of fs
unfolding lines_of
lines_append [] fs = refl
lines_append (e ∷ es) fs = rw (lines_append es fs, append_assoc)

pub lines_one : (e : Entry) → lines_of (e ∷ []) ≡ line_of e
unfolding lines_of
lines_one e = append-nil (line_of e)

-- ---- digits

pub digits_append : (xs ys : List ℕ) → digits (xs ++ ys) ≡ (digits xs && digits ys)
unfolding digits
digits_append [] ys = refl
digits_append (b ∷ xs) ys = rw (digits_append xs ys) (and_both (ltb (nibble b) 16) (digits xs) (digits ys))
  where
    and_both : (t x y : Bool) → (t && (x && y)) ≡ ((t && x) && y)
    and_both true x y = refl
    and_both false x y = refl

-- Where all are digits, the first k are, and those behind them.
pub digits_parts : (k : ℕ) (s : List ℕ) → digits s ≡ true → (digits (take k s) ≡ true) × (digits (drop k s) ≡ true)
digits_parts k s d = both (digits (take k s)) (digits (drop k s)) (sym (digits_append (take k s) (drop k s)) ∙ ap digits (take-append-drop k s) ∙ d)

-- A text that is read from its front: its first byte, and the rest as the part of the slice behind it; and a part of a part. Assumes
-- nothing.
use mathlib.Core.Path.{◌≡◌, refl, sym, ap}
use mathlib.Core.List.{List, [], ◌∷◌}
use Prim.Native.Nat.{ℕ, zero, suc, ◌-◌, ◌≤◌, ◌<◌}
use native.Mathlib.Omega.{arith}
use lib.ListN.{length, get_or, take, drop, length-drop}
use lib.Seq.{take_all, take-nil}

-- The part of a slice behind its first element.
abbrev pub behind : List ℕ → List ℕ
behind text = take (length text - 1) (drop 1 text)

pub first_and_rest : (text : List ℕ) → 0 < length text → text ≡ get_or text 0 0 ∷ behind text
first_and_rest [] h = absurd (omega arith)
first_and_rest (b ∷ bs) h = ap (λ (r : List ℕ). b ∷ r) (sym (take_all (length (b ∷ bs) - 1) bs (omega arith)))

pub none_left : (text : List ℕ) → length text ≤ 0 → text ≡ []
none_left [] h = refl
none_left (b ∷ bs) h = absurd (omega arith)

-- What is left of a text, as a part of its slice.
pub part_left : (key : List ℕ) (m : ℕ) → take (length key - m) (drop m key) ≡ drop m key
part_left key m = take_all (length key - m) (drop m key) (omega (arith, length-drop m key))

-- What is behind the first i of the first e.
pub drop_take : (i e : ℕ) (text : List ℕ) → drop i (take e text) ≡ take (e - i) (drop i text)
drop_take zero e text = let m : e - 0 ≡ e = omega arith in rw m
drop_take (suc i) zero text = let m : 0 - suc i ≡ 0 = omega arith in rw m
drop_take (suc i) (suc e) [] = sym (take-nil (suc e - suc i))
drop_take (suc i) (suc e) (b ∷ text) = let m : suc e - suc i ≡ e - i = omega arith in rw m (drop_take i e text)

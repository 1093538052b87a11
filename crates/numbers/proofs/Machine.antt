-- Two stored numbers that are tested together, by their bits. Assumes nothing.
use mathlib.Core.Path.{◌≡◌, refl, sym, ap, ◌∙◌}
use mathlib.Core.Logic.{◌≢◌, ⊎_elim}
use Prim.Native.Nat.{ℕ, ◌+◌}
use native.Mathlib.Omega.{arith}
use lib.IntN.{ℤ, pos}
use lib.Bits.{bit_or, or_add_and, and_le_l, and_le_r}
use lib.Dec.{eqb}
use borrow.Author.Tests.{eq-eqb, ne_eqb}
use mir.Syntax.{w32}
use mir.Val.{SFits, to_z, of_z}
use mir.Facts.{to_z-of_z}
use Rattle.numbers.proofs.Cases.{same?}
use Rattle.numbers.proofs.Laws.{sides}
use Rattle.numbers.specs.Stored.{away_of}

or_nought : (a b : ℕ) → bit_or a b ≡ 0 → (a ≡ 0) × (b ≡ 0)
or_nought a b e = let s = or_add_and a b in (omega (arith, s, e, and_le_r a b), omega (arith, s, e, and_le_l a b))

nought_is : (x : ℤ) → away_of x ≡ 0 → x ≡ pos 0
nought_is x e = sides x (pos 0) (omega (arith, e)) (omega (arith, e))

bits_nought : (x : ℤ) → SFits w32 x → of_z w32 x ≡ 0 → away_of x ≡ 0
bits_nought x f e = ap away_of (sym (to_z-of_z f) ∙ ap (to_z w32) e)

module _ (x y : ℤ) (f : SFits w32 x) (g : SFits w32 y) where
  one_away : away_of x + away_of y ≢ 0 → bit_or (of_z w32 x) (of_z w32 y) ≢ 0
  one_away d e = let (a, b) = or_nought (of_z w32 x) (of_z w32 y) e in d (omega (arith, bits_nought x f a, bits_nought y g b))

  both_nought : away_of x + away_of y ≡ 0 → bit_or (of_z w32 x) (of_z w32 y) ≡ 0
  both_nought e = rw (nought_is x (omega arith), nought_is y (omega arith)) refl

  pub or_bits : eqb (bit_or (of_z w32 x) (of_z w32 y)) 0 ≡ eqb (away_of x + away_of y) 0
  or_bits = ⊎_elim
      (λ (e : away_of x + away_of y ≡ 0). eq-eqb _ _ (both_nought e) ∙ sym (eq-eqb _ _ e))
      (λ (d : away_of x + away_of y ≢ 0). ne_eqb _ _ (one_away d) ∙ sym (ne_eqb _ _ d))
      (same? (away_of x + away_of y) 0)

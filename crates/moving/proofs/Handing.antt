-- The children of a cell handed to another, one after another in the order of the cells. Assumes nothing.
use mathlib.Core.Path.{◌≡◌, sym, ◌∙◌, fun_ext}
use mathlib.Core.Logic.{◌≢◌, ⊎_elim}
use mathlib.Core.Bool.{cond}
use Prim.Native.Nat.{ℕ, suc, ◌≤◌, ◌<◌}
use native.Mathlib.Omega.{arith}
use lib.Dec.{leb}
use borrow.Author.Tests.{le-leb, lt-leb, eq-eqb, ne_eqb}
use Rattle.numbers.proofs.Cases.{lt_or_ge, same?}
use Rattle.rules.specs.Table.{Cells, update}
use Rattle.tree.specs.MovingInTurn.{under}
use Rattle.tree.proofs.OneCell.{update_is}
use Rattle.moving.specs.Children.{handed}

module _ (T : Cells) (old new : ℕ) where
  pub under_other : (v : ℕ) → (T v).parent ≢ old → under old new (T v) ≡ T v
  unfolding under
  under_other v d = rw (ne_eqb _ _ d)

  pub handed_none : ((v : ℕ) → (T v).parent ≢ old) → handed T old new ≡ T
  unfolding handed
  handed_none d = fun_ext (λ v. under_other v (d v))

  -- The cells with the children up to the cell n handed over.
  unfoldable pub handed_to : ℕ → Cells
  handed_to n v = cond (leb v n) (under old new (T v)) (T v)

  module _ (n : ℕ) where
    handed_upto : (v : ℕ) → v ≤ n → handed_to n v ≡ under old new (T v)
    unfolding handed_to
    handed_upto v h = rw (le-leb v n h)

    handed_past : (v : ℕ) → n < v → handed_to n v ≡ T v
    unfolding handed_to
    handed_past v h = rw (lt-leb v n h)

    pub handed_start : ((v : ℕ) → v ≤ n → (T v).parent ≢ old) → handed_to n ≡ T
    handed_start d = fun_ext (λ v. ⊎_elim (handed_past v) (λ h. handed_upto v h ∙ under_other v (d v h)) (lt_or_ge n v))

    pub handed_end : ((v : ℕ) → n < v → (T v).parent ≢ old) → handed_to n ≡ handed T old new
    unfolding handed
    handed_end d = fun_ext (λ v. ⊎_elim (λ h. handed_past v h ∙ sym (under_other v (d v h))) (handed_upto v) (lt_or_ge n v))

  module _ (n : ℕ) where
    handed_off : (v : ℕ) → v ≢ suc n → handed_to (suc n) v ≡ handed_to n v
    handed_off v d = ⊎_elim
        (λ h. handed_past (suc n) v h ∙ sym (handed_past n v (omega arith)))
        (λ h. handed_upto (suc n) v h ∙ sym (handed_upto n v (omega arith)))
        (lt_or_ge (suc n) v)

    handed_at : handed_to (suc n) (suc n) ≡ under old new (T (suc n))
    handed_at = handed_upto (suc n) (suc n) (omega arith)

    pub handed_ahead : handed_to n (suc n) ≡ T (suc n)
    handed_ahead = handed_past n (suc n) (omega arith)

    -- The next cell is no child.
    pub handed_same : (T (suc n)).parent ≢ old → handed_to (suc n) ≡ handed_to n
    handed_same d = fun_ext (λ v. ⊎_elim
        (λ (e : v ≡ suc n). rw e (handed_at ∙ under_other (suc n) d ∙ sym handed_ahead)) (handed_off v) (same? v (suc n)))

    -- The next cell is a child.
    pub handed_more : (T (suc n)).parent ≡ old → let x = handed_to n (suc n) in
        handed_to (suc n) ≡ update (handed_to n) (suc n) (record { parent = new; base = x.base; row = x.row })
    unfolding under
    handed_more e = update_is (handed_to n) (suc n) _ (rw (handed_at, handed_ahead, eq-eqb _ _ e)) handed_off

-- A hop's four steps on a table: the cell new is claimed, holds what the cell old does, takes its children, and old is released.
-- What each asks follows from what the hop asks. Assumes nothing.
use mathlib.Core.Path.{◌≡◌, refl, sym, ap, ◌∙◌}
use mathlib.Core.Logic.{◌≢◌, ⊎_elim}
use mathlib.Core.List.{List}
use Prim.Native.Nat.{ℕ, ◌≤◌, max}
use native.Mathlib.Omega.{arith}
use lib.ListN.{get_or, set}
use lib.IntN.{ℤ}
use borrow.Author.Tests.{ne_eqb}
use Rattle.numbers.specs.Stored.{positive, plus_at}
use Rattle.numbers.proofs.Cases.{same?}
use Rattle.rules.specs.Table.{Content, Cells, Table, free, inner, update}
use Rattle.rules.specs.Rendering.{base_holds, base_of}
use Rattle.tree.specs.MovingInTurn.{under, hop}
use Rattle.tree.proofs.UsedCells.{parent_used, unused_parent}
use Rattle.tree.proofs.OneCell.{update_at, update_off, update_is}
use Rattle.tree.proofs.MovingInTurn.{hop_new, hop_old, hop_else}
use Rattle.cells.specs.Edits.{Shown, celled, holding, claimed, Claims, Releases}
use Rattle.cells.proofs.Shown.{shown_parent, base_element}
use Rattle.cells.proofs.Holding.{base_stored}
use Rattle.moving.specs.Children.{handed, Hands, Hops}
use Rattle.moving.proofs.Handing.{under_other}

module _ {base check : List ℤ} {old new : ℕ} {t : Table} (h : Hops base check old new t) where
  abbrev T : Cells
  T = t.cells

  pub old_inside : old ≤ t.size
  old_inside = h.shown.table.inside old h.parent

  differ : old ≢ new
  differ e = omega (arith, h.parent, ap (λ (x : ℕ). (T x).parent) e, unused_parent T new h.unused)

  -- ---- new is claimed, and holds what old does

  abbrev Both : Cells
  Both = update T new (T old)

  abbrev pub Copied : Table
  Copied = celled t Both

  both_new : Both new ≡ T old
  both_new = update_at T new (T old)

  both_other : (v : ℕ) → v ≢ new → Both v ≡ T v
  both_other = update_off T new (T old)

  both_old : Both old ≡ T old
  both_old = both_other old differ

  -- What new holds once it is claimed.
  abbrev X : Content
  X = inner (T old).parent 0

  both_is : update (update T new X) new (T old) ≡ Both
  both_is = update_is T new (T old) (update_at (update T new X) new (T old))
      (λ v d. update_off (update T new X) new (T old) v d ∙ update_off T new X v d)

  -- p is what check has for old.
  module _ {p : ℕ} (e : p ≡ plus_at check old) where
    parent_is : p ≡ (T old).parent
    parent_is = e ∙ shown_parent h.shown old (λ o. omega (arith, h.far))

    pub hop_claims : Claims base check new p t
    hop_claims = record {
      shown = h.shown;
      some = h.some;
      fits = omega (arith, h.inside, h.shown.fits);
      unused = h.unused;
      parent = rw parent_is h.parent;
      inside = rw parent_is h.within;
    }

    module _ {base₁ check₁ : List ℤ} (s : Shown base₁ check₁ (claimed t new p)) where
      claimed_is : Shown base₁ check₁ (holding t new X)
      claimed_is = let m : max t.size new ≡ t.size = omega (arith, h.inside) in rw (m, parent_is) at s

      held_is : get_or base₁ old (positive 0) ≡ base_holds (T old)
      unfolding base_of
      held_is = base_element claimed_is old ∙ rw (ne_eqb old 0 (λ o. omega (arith, h.far)), update_off T new X old differ)

      pub hop_copies : Shown (set base₁ new (get_or base₁ old (positive 0))) check₁ Copied
      hop_copies =
          let k : update T new X new ≡ X = update_at T new X in
          let u = parent_used (update T new X) new (rw k h.parent) in
          rw (held_is, ← both_is) (base_stored claimed_is new (T old) h.some u (rw k refl) (h.shown.table.one_kind old))

  -- ---- new takes the children

  pub hop_hands : {base₂ check₂ : List ℤ} → Shown base₂ check₂ Copied → Hands base₂ check₂ old new Copied
  hop_hands s = record {
    shown = s;
    far = h.far;
    some = h.some;
    inside = h.inside;
    below = λ v e. ⊎_elim
        (λ (o : v ≡ new). absurd (h.apart (rw (o, both_new) at e)))
        (λ d. rw both_old (h.below v (rw (both_other v d) at e))) (same? v new);
  }

  -- ---- old is released

  abbrev pub Given : Table
  Given = celled t (handed Both old new)

  pub hop_releases : {base₃ check₃ : List ℤ} → Shown base₃ check₃ Given → Releases base₃ check₃ old Given
  unfolding handed
  hop_releases s = record {
    shown = s;
    far = h.far;
    parent = rw (under_other Both old new old (rw both_old h.apart), both_old) h.parent;
  }

  pub hop_is : hop T old new ≡ update Given.cells old free
  unfolding handed
  hop_is = update_is (handed Both old new) old free (hop_old T old new differ) (λ v d. ⊎_elim
      (λ (o : v ≡ new). rw o (hop_new T old new ∙ sym (under_other Both old new new (rw both_new h.apart) ∙ both_new)))
      (λ n. hop_else T old new v n d ∙ ap (under old new) (sym (both_other v n))) (same? v new))

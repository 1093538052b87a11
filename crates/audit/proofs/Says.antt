-- Laws of a yes or no and what it is about. Assumes nothing.
use mathlib.Core.Path.{◌≡◌, refl, sym, ◌∙◌}
use mathlib.Core.Bool.{Bool, true, false, ◌&&◌, true≢false}
use Prim.Native.Nat.{ℕ, ◌≤◌}
use native.Mathlib.Omega.{arith}
use lib.Dec.{leb}
use borrow.Author.Tests.{leb-true, leb-false}
use Rattle.rules.proofs.Choices.{fails}
use Rattle.audit.specs.Says.{Says}

module _ {A : Type 0} where
  pub says_no : (A → ⊥) → Says A false
  says_no n = record { yes = λ e. absurd (true≢false (sym e)); no = λ e. n }

  -- The same answer, about what is so exactly if A is.
  pub says_too : {B : Type 0} {r : Bool} → Says A r → (A → B) → (B → A) → Says B r
  says_too s f g = record { yes = λ e. f (s.yes e); no = λ e b. s.no e (g b) }

-- Two answers together.
pub says_both : {A B : Type 0} {r s : Bool} → Says A r → Says B s → Says (A × B) (r && s)
says_both {r = true} a b = record { yes = λ e. (a.yes refl, b.yes e); no = λ e f. b.no e f.1 }
says_both {r = false} a b = says_no (λ f. a.no refl f.0)

-- ---- tests

-- An answer that equals the test whether n is not 0.
module _ {n : ℕ} (r : Bool) (is : r ≡ leb 1 n) where
  pub tested_some : r ≡ true → 1 ≤ n
  tested_some e = leb-true 1 n (sym is ∙ e)

  pub tested_none : r ≡ false → n ≡ 0
  tested_none e = let h = leb-false 1 n (sym is ∙ e) in omega arith

-- An answer that equals a test says whether the test passes, and the other way round.
pub says_as : {r s : Bool} → r ≡ s → Says (s ≡ true) r
says_as e = record { yes = λ t. sym e ∙ t; no = λ f t. true≢false (sym t ∙ sym e ∙ f) }

pub as_said : (r : Bool) {s : Bool} → Says (s ≡ true) r → r ≡ s
as_said true y = sym (y.yes refl)
as_said false {s} y = sym (fails s (y.no refl))

-- No is right where a yes would be refuted.
pub refuted : {s : Bool} → (s ≡ true → ⊥) → false ≡ s
refuted n = as_said false (says_no n)

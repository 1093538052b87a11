-- A walk along a text by its first character: one without a code, one that leads nowhere, one that leads on. Assumes nothing.
use mathlib.Core.Path.{◌≡◌}
use mathlib.Core.Bool.{true}
use mathlib.Core.List.{List, ◌∷◌}
use Prim.Native.Nat.{ℕ, ◌≤◌, ◌<◌}
use native.Mathlib.Omega.{arith}
use lib.ListN.{length}
use lib.IntN.{ℤ}
use lib.Dec.{leb}
use borrow.Author.Tests.{le-leb, leb-true}
use Rattle.rules.specs.WhatTheIndexDoes.{code_of, document01, coded}
use Rattle.rules.specs.Finding.{next_at}
use Rattle.rules.proofs.Choices.{branch, both}
use Rattle.finding.specs.Reaching.{step_at}
use Rattle.finding.proofs.Leading.{next_inside}

-- From s with the character b.
module _ (base check : List ℤ) (s b : ℕ) where
  pub uncoded_step : code_of b ≡ 0 → 0 ≡ step_at base check s b
  unfolding step_at
  uncoded_step z = rw z

  pub coded_step : {c : ℕ} → c ≡ code_of b → 1 ≤ c → next_at base check s c ≡ step_at base check s b
  unfolding step_at
  coded_step {c} is h = rw (← is, le-leb 1 c h)

  pub step_inside : 1 ≤ length base → step_at base check s b < length base
  unfolding step_at
  step_inside h = branch (λ t. t < length base) (leb 1 (code_of b)) (λ _. next_inside base check s (code_of b) h) (λ _. h)

  -- Where it leads on, the character has a code.
  pub led_coded : 1 ≤ step_at base check s b → 1 ≤ code_of b
  unfolding step_at
  led_coded = branch (λ t. 1 ≤ t → 1 ≤ code_of b) (leb 1 (code_of b)) (λ e _. leb-true _ _ e) (λ _ h. absurd (omega arith))

-- Whether all characters have codes, by the first.
pub coded_on : (b : ℕ) (bs : List ℕ) → 1 ≤ code_of b → coded document01 bs ≡ coded document01 (b ∷ bs)
unfolding coded
coded_on b bs h = rw (le-leb 1 (code_of b) h)

pub coded_first : (b : ℕ) (bs : List ℕ) → coded document01 (b ∷ bs) ≡ true → 1 ≤ code_of b
unfolding coded
coded_first b bs k = leb-true 1 (code_of b) (both (leb 1 (code_of b)) (coded document01 bs) k).0

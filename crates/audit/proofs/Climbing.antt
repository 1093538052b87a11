-- A climb from parent to parent, and what it gives. Assumes nothing.
use mathlib.Core.Path.{◌≡◌, refl, ap, ◌∙◌}
use mathlib.Core.Logic.{◌≢◌, ⊎_elim}
use mathlib.Core.Bool.{Bool, true, false}
use mathlib.Core.List.{List}
use Prim.Native.Nat.{ℕ, suc, ◌+◌, ◌≤◌, ◌<◌}
use native.Mathlib.Omega.{arith}
use lib.ListN.{get_or}
use lib.IntN.{ℤ}
use lib.Dec.{leb}
use borrow.Author.Tests.{leb-true}
use Rattle.std.specs.Prelude.{Option}
use Rattle.std.specs.Bool.{then_some}
use Rattle.numbers.specs.Stored.{plus_at}
use Rattle.rules.specs.WhatTheIndexDoes.{Profile}
use Rattle.rules.specs.ASoundTable.{home}
use Rattle.audit.specs.Ways.{most, Depth, Used, Closed, NotedBelow, Climbed}
use Rattle.audit.proofs.Depths.{home_up, home_none, depth_up}

-- From t to `at` in so many steps.
pub record Climbing (check : List ℤ) (t steps at : ℕ) : Type 0 where
  pub low : 1 ≤ at
  pub used : Used check at
  pub rises : (k : ℕ) → home check (k + steps) t ≡ home check k at
  pub deep : (d : ℕ) → Depth check at d → Depth check t (d + steps)

-- A used cell other than the root has a parent.
pub used_parent : (check : List ℤ) (t : ℕ) → Used check t → 2 ≤ t → 1 ≤ plus_at check t
used_parent check t u far = ⊎_elim (λ e. absurd (omega arith)) (λ h. h) u

module _ {check : List ℤ} where
  pub climb_on : {t steps at p : ℕ} (more : ℕ) → Closed check → Climbing check t steps at → 2 ≤ at → p ≡ plus_at check at →
      more ≡ steps + 1 → Climbing check t more p
  climb_on {t} {steps} {at} more closed w far is on =
      let other : at ≢ 1 = (λ e. omega arith) in
      let parent = used_parent check at w.used far in rw (is, on) (record {
        low = parent;
        used = closed at far parent;
        rises = λ k. ap (λ n. home check n t) (omega arith) ∙ w.rises (suc k) ∙ home_up check k at other;
        deep = λ d f k. w.deep (suc d) (depth_up check at d other f) k ∙ ap (λ n. leb n k) (omega arith);
      })

  -- What it says where it takes too long, and where it has come to a cell whose depth is noted.
  module _ {t steps at : ℕ} (w : Climbing check t steps at) where
    pub climbed_out : (P : Profile) → steps ≡ most P → at ≢ 1 → home check (most P) t ≡ false
    climbed_out P e d = ap (λ n. home check n t) (omega arith) ∙ w.rises 0 ∙ home_none check at d

    module _ (P : Profile) {size : ℕ} {depths : List ℕ} (noted : NotedBelow check size t depths) (below : at < t) (some : 1 ≤ steps) where
      abbrev d : ℕ
      d = get_or depths at 0 + steps

      deep : Depth check t d
      deep = w.deep (get_or depths at 0) (noted.each at w.low below w.used)

      found : (b : Bool) → leb d (most P) ≡ b → Climbed P check t (then_some b d)
      found true e = record { deep = deep; some = omega arith; small = leb-true d (most P) e }
      found false e = deep (most P) ∙ e

      pub climbed : {r : Option ℕ} → r ≡ then_some (leb d (most P)) d → Climbed P check t r
      climbed e = rw e (found (leb d (most P)) refl)

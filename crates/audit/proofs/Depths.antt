-- How deep a cell lies, counted by the climb from parent to parent. Assumes nothing.
use mathlib.Core.Path.{◌≡◌, refl, sym, ap, ◌∙◌}
use mathlib.Core.Logic.{◌≢◌, ⊎_elim}
use mathlib.Core.Bool.{true, false}
use mathlib.Core.List.{List}
use Prim.Native.Nat.{ℕ, zero, suc, ◌≤◌}
use native.Mathlib.Nat.{le_of_suc-le-suc}
use native.Mathlib.Omega.{arith}
use lib.IntN.{ℤ}
use lib.Dec.{leb-zero, leb-suc-zero, leb-suc-suc}
use borrow.Author.Tests.{ne_eqb, eqb-true}
use Rattle.numbers.specs.Stored.{plus_at}
use Rattle.numbers.proofs.Cases.{same?}
use Rattle.rules.specs.ASoundTable.{home}
use Rattle.tree.proofs.Climbs.{root_home}
use Rattle.audit.specs.Ways.{Depth}

module _ (check : List ℤ) where
  -- One step of a climb.
  pub home_up : (k t : ℕ) → t ≢ 1 → home check (suc k) t ≡ home check k (plus_at check t)
  unfolding home
  home_up k t d = rw (ne_eqb t 1 d)

  pub home_none : (t : ℕ) → t ≢ 1 → home check 0 t ≡ false
  unfolding home
  home_none t d = ne_eqb t 1 d

  pub depth_root : Depth check 1 0
  depth_root k = root_home check k refl ∙ sym (leb-zero k)

  pub depth_up : (t d : ℕ) → t ≢ 1 → Depth check (plus_at check t) d → Depth check t (suc d)
  depth_up t d other f zero = home_none t other ∙ sym (leb-suc-zero d)
  depth_up t d other f (suc k) = home_up k t other ∙ f k ∙ sym (leb-suc-suc d k)

  -- More steps do no harm.
  pub home_longer : (k m t : ℕ) → k ≤ m → home check k t ≡ true → home check m t ≡ true
  unfolding home
  home_longer zero m t h e = root_home check m (eqb-true t 1 e)
  home_longer (suc k) zero t h e = absurd (omega arith)
  home_longer (suc k) (suc m) t h e = ⊎_elim
      (root_home check (suc m))
      (λ d. home_up m t d ∙ home_longer k m (plus_at check t) (le_of_suc-le-suc h) (sym (home_up k t d) ∙ e))
      (same? t 1)

  -- A cell that is its own parent never comes to the root.
  pub home_never : (t : ℕ) → t ≢ 1 → plus_at check t ≡ t → (k : ℕ) → home check k t ≡ false
  home_never t d e zero = home_none t d
  home_never t d e (suc k) = home_up k t d ∙ ap (home check k) e ∙ home_never t d e k

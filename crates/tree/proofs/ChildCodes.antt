-- The codes of a cell's children are those that lead on, and a cell is childless where none does. Where a base lies. Assumes
-- nothing.
use mathlib.Core.Path.{◌≡◌, refl, sym, ap, ◌∙◌, subst}
use mathlib.Core.Logic.{◌≢◌, inl, inr, ⊎_elim}
use mathlib.Core.Bool.{Bool, true, false}
use mathlib.Core.List.{List, [], ◌∷◌, cons≢nil}
use Prim.Native.Nat.{ℕ, zero, suc, ◌+◌, ◌≤◌}
use native.Mathlib.Omega.{arith}
use lib.ListN.{length, drop}
use lib.Seq.{drop-nil}
use lib.Dec.{eqb}
use borrow.Author.Tests.{eq-eqb, eqb-true, eqb-false}
use Rattle.numbers.proofs.Cases.{same?, some?}
use Rattle.rules.specs.WhatTheIndexDoes.{Profile}
use Rattle.rules.specs.Table.{Cells, Table, next, child_codes, childless}
use Rattle.rules.proofs.Choices.{branch}
use Rattle.rules.proofs.Texts.{none_left}
use Rattle.tree.specs.Soundness.{Step, Tree, Sound}
use Rattle.tree.specs.Members.{Among, Once}
use Rattle.tree.proofs.Steps.{step_next, step?, next_step, next_baseless}
use Rattle.tree.proofs.Trees.{used_pos, based_used, step_used, step_low, step_high, step_far}

-- A list with a member is not empty.
pub among_length : (cs : List ℕ) (c : ℕ) → Among c cs → 1 ≤ length cs
among_length [] c m = absurd m
among_length (d ∷ cs) c m = omega arith

module _ (T : Cells) (s : ℕ) where
  pub codes_lead : (k c : ℕ) → Among c (child_codes T s k) → (1 ≤ c) × (c ≤ k) × (1 ≤ next T s c)
  unfolding child_codes
  codes_lead zero c = λ m. absurd m
  codes_lead (suc k) c = branch (λ cs. Among c cs → (1 ≤ c) × (c ≤ suc k) × (1 ≤ next T s c)) (eqb (next T s (suc k)) 0)
      (λ e m. let (l, h, n) = codes_lead k c m in (l, omega arith, n))
      (λ e. ⊎_elim
      (λ f. let d : next T s (suc k) ≢ 0 = eqb-false _ _ e in (omega arith, omega arith, omega (arith, ap (next T s) f)))
      (λ m. let (l, h, n) = codes_lead k c m in (l, omega arith, n)))

  pub lead_codes : (k c : ℕ) → 1 ≤ c → c ≤ k → 1 ≤ next T s c → Among c (child_codes T s k)
  unfolding child_codes
  lead_codes zero c l h n = absurd (omega arith)
  lead_codes (suc k) c l h n = branch (λ cs. Among c cs) (eqb (next T s (suc k)) 0)
      (λ e. let z : next T s (suc k) ≡ 0 = eqb-true _ _ e in
      let d : c ≢ suc k = (λ f. omega (arith, ap (next T s) f)) in lead_codes k c l (omega arith) n)
      (λ e. ⊎_elim (λ f. inl f) (λ d. inr (lead_codes k c l (omega arith) n)) (same? c (suc k)))

  -- c is one of the codes l, and cs are those of the children of s with smaller codes.
  abbrev pub Behind : ℕ → List ℕ → List ℕ → Type 0
  Behind c cs l = (j : ℕ) × (c ≡ suc j) × (cs ≡ child_codes T s j) × Among c l

  pub codes_behind : (k i : ℕ) {c : ℕ} {cs : List ℕ} → drop i (child_codes T s k) ≡ c ∷ cs → Behind c cs (child_codes T s k)
  unfolding child_codes
  codes_behind zero i = λ e. absurd (cons≢nil (sym e ∙ drop-nil i))
  codes_behind (suc k) zero {c} {cs} = branch (λ l. l ≡ c ∷ cs → Behind c cs l) (eqb (next T s (suc k)) 0)
      (λ f. codes_behind k 0) (λ f e. (k, cc, cc, inl (cc)))
  codes_behind (suc k) (suc i) {c} {cs} = branch (λ l. drop (suc i) l ≡ c ∷ cs → Behind c cs l) (eqb (next T s (suc k)) 0)
      (λ f. codes_behind k (suc i)) (λ f e. let (j, p, r, a) = codes_behind k i e in (j, p, r, inr a))

  pub codes_once : (k : ℕ) → Once (child_codes T s k)
  unfolding child_codes
  codes_once zero = tt
  codes_once (suc k) = branch (λ (cs : List ℕ). Once cs) (eqb (next T s (suc k)) 0)
      (λ e. codes_once k)
      (λ e. (λ a. absurd (omega (arith, (codes_lead k (suc k) a).1)), codes_once k))

  pub childless_codes : (k : ℕ) → childless T s k ≡ true → child_codes T s k ≡ []
  unfolding childless
  childless_codes k e = let z : length (child_codes T s k) ≡ 0 = eqb-true _ _ e in none_left (child_codes T s k) (omega arith)

  childless_next : (k c : ℕ) → childless T s k ≡ true → 1 ≤ c → c ≤ k → next T s c ≡ 0
  childless_next k c e l h = ⊎_elim
      (λ n. n) (λ n. absurd (subst (Among c) (childless_codes k e) (lead_codes k c l h n))) (some? (next T s c))

  pub childless_baseless : (k : ℕ) → (T s).base ≡ 0 → childless T s k ≡ true
  unfolding childless child_codes
  childless_baseless zero z = refl
  childless_baseless (suc k) z = rw (eq-eqb _ _ (next_baseless T s (suc k) z)) (childless_baseless k z)

  some_member : (cs : List ℕ) → length cs ≢ 0 → (c : ℕ) × Among c cs
  some_member [] d = absurd (d refl)
  some_member (c ∷ cs) d = (c, inl refl)

  pub child_next : (k : ℕ) → childless T s k ≡ false → (c : ℕ) × (1 ≤ next T s c)
  unfolding childless
  child_next k e = let (c, m) = some_member (child_codes T s k) (eqb-false _ _ e) in (c, (codes_lead k c m).2)

module _ {P : Profile} {T : Cells} {size : ℕ} (w : Tree P T size) where
  pub step_among : {s c t : ℕ} → Step T s c t → Among c (child_codes T s P.greatest)
  step_among {s} {c} p = lead_codes T s P.greatest c (step_low w p) (step_high w p) (rw (step_next T p) (omega (arith, step_far w p)))

  pub children_inside : (s c : ℕ) → Among c (child_codes T s P.greatest) → (T s).base + c ≤ size
  children_inside s c a =
      let p = next_step T {s = s} {c = c} (codes_lead T s P.greatest c a).2 in
      omega (arith, p.at, w.inside (next T s c) (step_used w p))

  -- No cell has a childless one for its parent.
  pub childless_alone : (s : ℕ) → childless T s P.greatest ≡ true → 1 ≤ s → (u : ℕ) → (T u).parent ≢ s
  childless_alone s e h u f =
      let k = w.sits u (rw f h) in
      let p : Step T s k.code u = rw f at k.step in
      omega (arith, step_next T p, childless_next T s P.greatest k.code e k.low k.high, step_far w p)

-- In a sound table no base is past the size: a child lies behind it, or it is 1, that of a root without children.
module _ {P : Profile} {t : Table} (w : Sound P t) (s : ℕ) where
  near_child : (c : ℕ) → 1 ≤ next t.cells s c → (t.cells s).base ≤ t.size
  near_child c n =
      let p = next_step t.cells n in
      omega (arith, p.at, w.tree.inside (next t.cells s c) (step_used w.tree p))

  near_root : s ≡ 1 → (b : Bool) → childless t.cells s P.greatest ≡ b → (t.cells s).base ≤ t.size
  near_root e false f = let (c, n) = child_next t.cells s P.greatest f in near_child c n
  near_root e true f =
      let none : (c : ℕ) → next t.cells 1 c ≡ 0 = λ c. ⊎_elim
      (λ p. absurd (childless_alone w.tree s f (omega arith) (next t.cells 1 c) (p.back ∙ sym e))) (λ z. z) (step? t.cells 1 c) in
      rw e (omega (arith, w.bare none, w.tree.some))

  pub based_near : 1 ≤ (t.cells s).base → (t.cells s).base ≤ t.size
  based_near h = ⊎_elim
      (λ e. near_root e (childless t.cells s P.greatest) refl)
      (λ u. let (c, n) = w.fruit s (λ e. omega (arith, used_pos w.tree s u)) u h in near_child c n)
      (based_used w.tree s h)

-- `collect` gives the codes of a cell's children behind another code. Assumes nothing.
use mathlib.Core.Path.{◌≡◌, refl, sym, ap, ◌∙◌}
use mathlib.Core.Bool.{true, false, cond}
use mathlib.Core.List.{List, [], ◌∷◌, ◌++◌, append-nil, append_assoc}
use Prim.Native.Nat.{ℕ, zero, suc, ◌+◌, ◌-◌, ◌≤◌, ◌<◌}
use native.Mathlib.Omega.{arith}
use lib.ListN.{length-append}
use lib.IntN.{ℤ}
use lib.Dec.{eqb}
use borrow.Author.Tests.{lt-ltb, ne_eqb}
use Rattle.numbers.specs.Stored.{plus_at}
use Rattle.rules.specs.WhatTheIndexDoes.{GREATEST}
use Rattle.rules.specs.Table.{Table, next, child_codes}
use Rattle.rules.proofs.Choices.{branch₂}
use Rattle.cells.proofs.Shown.{shown_base, shown_parent, shown_small}
use Rattle.moving.specs.Children.{Collects}
use Rattle.moving.proofs.collect.Invariants.{codes_at, codes_none, codes_yes, codes_no, Underway}
use Rattle.moving.proofs.collect.Goals.{then-is_at, else-is_at}
use Rattle.moving.proofs.collect.Goals as goal

module _ {base check : List ℤ} {s : ℕ} {t : Table} (h : Collects base check s t) where
  codes_are : (k : ℕ) → codes_at check (t.cells s).base s k ≡ child_codes t.cells s k
  unfolding codes_at child_codes next
  codes_are zero = refl
  codes_are (suc k) =
      let b = (t.cells s).base in
      rw (codes_are k, shown_parent h.shown (b + suc k) (λ e. omega (arith, h.based)), lt-ltb 0 b h.based)
      (branch₂ (λ (cs : List ℕ) (u : ℕ). cs ≡ cond (eqb u 0) (child_codes t.cells s k) (suc k ∷ child_codes t.cells s k))
      (eqb (t.cells (b + suc k)).parent s) (λ e. rw (ne_eqb (b + suc k) 0 (λ z. omega arith))) (λ e. refl))

module _ {check : List ℤ} {b s c : ℕ} {codes : List ℕ} {k : ℕ} (u : Underway check b s c codes k) where
  writes : 0 < k → eqb (plus_at check (b + k)) s ≡ true → Underway check b s c (codes ++ k ∷ []) (k - 1)
  writes l e = record {
    few = rw (length-append codes (k ∷ [])) (omega (arith, u.few));
    all = rw (append_assoc codes (k ∷ []) (codes_at check b s (k - 1))) (rw (codes_yes check b s k (k - 1) (omega arith) e) at u.all);
  }

  passes : 0 < k → eqb (plus_at check (b + k)) s ≡ false → Underway check b s c codes (k - 1)
  passes l e = record { few = omega (arith, u.few); all = rw (codes_no check b s k (k - 1) (omega arith) e) at u.all }

  ends : {base : List ℤ} {t : Table} → Collects base check s t → b ≡ plus_at base s → k ≤ 0 → codes ≡ c ∷ child_codes t.cells s GREATEST
  ends h e l =
      sym (append-nil codes) ∙ rw (codes_none check b s k l) at u.all ∙ ap (λ cs. c ∷ cs)
      (ap (λ a. codes_at check a s GREATEST) (e ∙ shown_base h.shown s h.some) ∙ codes_are h GREATEST)

pub is_at-requires : goal.is_at-requires
is_at-requires c =
    let (t, h) = c.requires in
    (h.some, omega (arith, h.inside, shown_small h.shown))

pub returns : goal.returns
returns c t h = ends c.loop-k.invariant h c.at-b.ensures.is (omega arith)

pub loop-k-preserved : goal.loop-k-preserved
loop-k-preserved c =
    let u = c.loop-k.invariant in
    let is = sym c.is_at.ensures in
    elim c.if-is_at.branch [
      | then-is_at w ↦ rw (w.codes-is, w.push.ensures) (writes u (omega arith) (is ∙ w.if-is_at.true))
      | else-is_at w ↦ rw w.codes-is (passes u (omega arith) (is ∙ w.if-is_at.false))
    ]

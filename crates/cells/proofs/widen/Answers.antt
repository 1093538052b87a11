-- `widen` links each cell that it passes to the next one. Assumes nothing.
use mathlib.Core.Path.{◌≡◌, refl, ◌∙◌}
use mathlib.Core.Bool.{false}
use mathlib.Core.List.{List}
use Prim.Native.Nat.{ℕ, suc, ◌+◌, ◌-◌, ◌≤◌, ◌<◌, max}
use native.Mathlib.Numerals.{add-one}
use native.Mathlib.Omega.{arith}
use lib.ListN.{set, length-set}
use lib.IntN.{ℤ}
use Rattle.numbers.specs.Stored.{positive, negative, plus_at}
use Rattle.rules.specs.Table.{Table, used}
use Rattle.tree.proofs.TidyTables.{tidy_past}
use Rattle.cells.specs.Edits.{Shown, SomeTable, EveryTable, sized, Widens}
use Rattle.cells.proofs.Shown.{shown_size, check_element}
use Rattle.cells.proofs.Stores.{cell_fits}
use Rattle.cells.proofs.Resizing.{check_wider, show_sized}
use Rattle.cells.proofs.widen.Invariants.{Widening}
use Rattle.cells.proofs.widen.Goals.{else-loop-u-test, then-loop-u-test+else-u-n}
use Rattle.cells.proofs.widen.Goals as goal

module _ (base check : List ℤ) (n : ℕ) {size : ℕ} (e : size ≡ plus_at base 0) where
  -- The size is n or more already.
  as_wide : n ≤ size → EveryTable (Widens base check n) (λ t. Shown base check (sized t (max t.size n)))
  as_wide h t a = let m : max t.size n ≡ t.size = omega (arith, shown_size a.shown) in rw m a.shown

  starts : SomeTable (Widens base check n) → Widening base check n check size
  starts (t₀, w) = record {
    same = refl;
    fits = cell_fits w.shown n w.fits;
    least = λ t a. omega (arith, shown_size a.shown);
    held = λ t a. rw (e ∙ shown_size a.shown) (check_element a.shown);
  }

module _ {base check₀ check : List ℤ} {n i : ℕ} (w : Widening base check₀ n check i) where
  past : (t : Table) → Widens base check₀ n t → (u : ℕ) → i < u → used t.cells u ≡ false
  past t a u k = tidy_past a.shown.table u (omega (arith, w.least t a))

  goes_on : (check' : List ℤ) (u : ℕ) → u ≡ suc i → u ≤ n → check' ≡ set check u (negative (u + 1)) → Widening base check₀ n check' u
  goes_on check' u p l e = rw (e, add-one, p) (record {
    same = length-set check (suc i) (negative (suc (suc i))) ∙ w.same;
    fits = w.fits;
    least = λ t a. omega (arith, w.least t a);
    held = λ t a. check_wider t i (past t a) check (omega (arith, w.same, w.fits)) (w.held t a);
  })

  ends : (base' : List ℤ) → n ≡ i → base' ≡ set base 0 (positive n) →
      EveryTable (Widens base check₀ n) (λ t. Shown base' check (sized t (max t.size n)))
  ends base' d e t a =
      let m : max t.size n ≡ n = omega (arith, w.least t a) in
      let some : 1 ≤ i = omega (arith, w.least t a, a.shown.table.some) in
      rw (e, m, d) (show_sized t i (past t a) a.shown some (omega (arith, a.fits)) w.same (w.held t a))

pub returns-else-size-n : goal.returns-else-size-n
returns-else-size-n c = as_wide _ _ _ c.at-size.ensures.is c.if-size-n.false

pub loop-u-init : goal.loop-u-init
loop-u-init c =
    let e : c.at-size.result + 1 - 1 ≡ c.at-size.result = omega arith in
    rw e (starts _ _ _ c.at-size.ensures.is c.requires)

pub loop-u-preserved : goal.loop-u-preserved
loop-u-preserved c =
    let u = c.loop-u.u in
    let e : u + 1 - 1 ≡ u = omega arith in
    rw e (goes_on c.loop-u.invariant c.put.new.s u (omega arith) (omega arith) c.put.ensures)

pub returns-after-loop-u : goal.returns-after-loop-u
returns-after-loop-u c =
    let l = c.loop-u in
    let put = c.put-then-size-n in
    elim c.loop-u-test.branch [
      | else-loop-u-test w ↦ rw w.check-is (ends l.invariant put.new.s (omega arith) put.ensures)
      | then-loop-u-test+else-u-n w ↦ rw w.check-is
          (ends (goes_on l.invariant w.put.new.s l.u (omega arith) (omega arith) w.put.ensures) put.new.s (omega arith) put.ensures)
    ]

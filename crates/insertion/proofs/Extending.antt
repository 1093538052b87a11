-- The node at which the walk stopped: whether it collides, and what is then asked and left. Assumes nothing.
use mathlib.Core.Path.{◌≡◌, refl, ap₂, ◌∙◌, subst}
use mathlib.Core.Logic.{◌≢◌}
use mathlib.Core.Bool.{Bool, true, false, ◌||◌, or-true}
use mathlib.Core.List.{List, ◌∷◌}
use Prim.Native.Nat.{ℕ, ◌+◌, ◌≤◌, ◌<◌}
use native.Mathlib.Omega.{arith}
use lib.ListN.{length}
use lib.IntN.{ℤ}
use lib.Dec.{ltb}
use borrow.Author.Tests.{lt-ltb, le-ltb}
use Rattle.numbers.specs.Stored.{plus_at}
use Rattle.std.specs.Prelude.{Ok, Err}
use Rattle.rules.specs.declared.Refusal.{Refusal}
use Rattle.rules.specs.Answers.{Answer, counted}
use Rattle.rules.specs.WhatTheIndexDoes.{GREATEST, document01, last_cell}
use Rattle.rules.specs.Table.{child_codes, Cells, Table, used}
use Rattle.rules.specs.Insertion.{extend}
use Rattle.rules.proofs.Lengths.{lengths_within}
use Rattle.tree.specs.Labels.{first_label, further_labels}
use Rattle.tree.proofs.UsedCells.{parent_used, parentless_unused}
use Rattle.tree.proofs.Trees.{based_pos, based_inside}
use Rattle.tree.proofs.Branches.{grow_count}
use Rattle.cells.specs.Edits.{EveryTable}
use Rattle.moving.specs.Children.{Collects}
use Rattle.growing.specs.Branches.{growth, Grows, Grown}
use Rattle.insertion.specs.Inserting.{collision, extension, Extends, PlacesAnew, Extended}
use Rattle.cells.proofs.Shown.{shown_base, shown_parent}
use Rattle.growing.proofs.Leaving.{fits_left, unfit_left, unfit_says}
use Rattle.insertion.proofs.DoneOrNoRoom.{done, no_room}

module _ {base check : List ℤ} {s : ℕ} {rest : List ℕ} {row : ℕ} {t : Table} (e : Extends base check s rest row t) where
  abbrev T : Cells
  T = t.cells

  abbrev c : ℕ
  c = first_label document01 rest

  pub s_inside : s ≤ t.size
  s_inside = based_inside e.tree s e.based

  pub collects : Collects base check s t
  collects = record {
    shown = e.shown;
    some = based_pos e.tree s e.based;
    inside = s_inside;
    based = e.based;
  }

  pub anew : {d : ℕ} → d ≡ c → {codes : List ℕ} → codes ≡ d ∷ child_codes T s GREATEST → PlacesAnew base check s rest row codes t
  anew is w = record { extends = e; codes_are = rw (← is) w }

  -- ---- the cell of the first label

  module _ {b d : ℕ} (is_base : b ≡ plus_at base s) (is-label : d ≡ c) where
    cell_is : b + d ≡ (T s).base + c
    cell_is = ap₂ ◌+◌ (is_base ∙ shown_base e.shown s (based_pos e.tree s e.based)) is-label

    cell_far : (T s).base + c ≢ 1
    cell_far o = omega (arith, e.based, e.low)

    -- What check says of it.
    cell_parent : plus_at check (b + d) ≡ (T ((T s).base + c)).parent
    cell_parent = rw cell_is (shown_parent e.shown ((T s).base + c) cell_far)

    -- ---- the node collides

    abbrev collides : Bool
    collides = used T ((T s).base + c) || ltb (last_cell base) ((T s).base + c)

    is_collision : collides ≡ true → (extension (last_cell base) t s rest row) ≡ (collision (last_cell base) t s rest row)
    unfolding extend
    is_collision y = rw y

    past_last : length base ≤ b + d → collides ≡ true
    past_last h =
        let past : last_cell base < (T s).base + c = omega (arith, cell_is, (lengths_within base check e.shown.lengths).0) in
        rw (lt-ltb (last_cell base) ((T s).base + c) past, or-true)

    is_taken : {v : ℕ} → v ≡ plus_at check (b + d) → 0 < v → collides ≡ true
    is_taken says h = rw (parent_used T ((T s).base + c) (omega (arith, says, cell_parent)))

    module _ {r : Answer} {base' check' : List ℤ} (x : Extended (collision (last_cell base) t s rest row) t r base' check') where
      pub collides_past : length base ≤ b + d → Extended (extension (last_cell base) t s rest row) t r base' check'
      collides_past h = rw (is_collision (past_last h)) x

      pub collides_taken : {v : ℕ} → v ≡ plus_at check (b + d) → 0 < v → Extended (extension (last_cell base) t s rest row) t r base' check'
      collides_taken says h = rw (is_collision (is_taken says h)) x

    -- ---- or not

    module _ (inside : b + d < length base) {v : ℕ} (says : v ≡ plus_at check (b + d)) (clear : v ≤ 0) where
      vacant : used T ((T s).base + c) ≡ false
      vacant = parentless_unused T ((T s).base + c) cell_far (omega (arith, says, cell_parent))

      cell_fits : (T s).base + c ≤ last_cell base
      cell_fits = omega (arith, cell_is)

      is_plain : (extension (last_cell base) t s rest row) ≡ (growth (last_cell base) t s rest row)
      unfolding extend
      is_plain = rw (vacant, le-ltb (last_cell base) ((T s).base + c) cell_fits)

      pub grows : Grows base check s rest row t
      grows = record {
        leads = record {
          shown = e.shown;
          some = based_pos e.tree s e.based;
          inside = s_inside;
          based = e.based;
          unused = vacant;
          fits = cell_fits;
        };
        row_is = e.row_is;
      }

      module _ {base' check' : List ℤ} where
        pub grown_done : {x : Unit {0}} →
            EveryTable (Grows base check s rest row) (λ t. Grown (growth (last_cell base) t s rest row) t (Ok x) base' check') →
            Extended (extension (last_cell base) t s rest row) t (counted 0) base' check'
        grown_done f =
            let (fitted, shown) = fits_left (f t grows) refl in
            let none = grow_count (last_cell base) T t.size s c (further_labels document01 rest) row in
            rw is_plain (subst (λ n. Extended (growth (last_cell base) t s rest row) t (counted n) base' check') none (done fitted shown))

        pub grown_none : {x : Refusal} →
            EveryTable (Grows base check s rest row) (λ t. Grown (growth (last_cell base) t s rest row) t (Err x) base' check') →
            Extended (extension (last_cell base) t s rest row) t (Err x) base' check'
        grown_none f =
            let (unfitted, shown) = unfit_left (f t grows) refl in
            rw (is_plain, unfit_says (f t grows)) (no_room unfitted shown)

-- A node that collides: the codes to be placed, whether the placed base fits, and what the move and the growth come to. Assumes
-- nothing.
use mathlib.Core.Path.{◌≡◌, refl, sym, ap, ◌∙◌, subst}
use mathlib.Core.Logic.{inl, inr}
use mathlib.Core.Bool.{◌&&◌}
use mathlib.Core.List.{List, ◌∷◌}
use Prim.Native.Nat.{ℕ, ◌+◌, ◌-◌, ◌≤◌, ◌<◌}
use native.Mathlib.Omega.{arith}
use lib.ListN.{length}
use lib.Seq.{take_all}
use lib.IntN.{ℤ}
use lib.Dec.{leb}
use borrow.Author.Tests.{le-leb, lt-leb}
use Rattle.std.specs.Prelude.{Result, Ok, Err}
use Rattle.rules.specs.declared.Refusal.{Refusal}
use Rattle.rules.specs.declared.Refusal.TheVariants.{NoRoom}
use Rattle.rules.specs.Answers.{counted}
use Rattle.rules.specs.WhatTheIndexDoes.{GREATEST, document01, last_cell}
use Rattle.rules.specs.Table.{Cells, Table, used, child_codes}
use Rattle.rules.specs.Placement.{greatest_of, placed, fits}
use Rattle.rules.specs.Insertion.{Course, collide}
use Rattle.rules.proofs.Codes.{document01_round_trip}
use Rattle.rules.proofs.Lengths.{lengths_within}
use Rattle.rules.proofs.Texts.{behind}
use Rattle.tree.specs.Labels.{first_label}
use Rattle.tree.specs.Members.{Among}
use Rattle.tree.proofs.Labels.{label_high}
use Rattle.tree.proofs.Trees.{past_unused}
use Rattle.tree.proofs.Placement.{greatest_within, placed_within}
use Rattle.tree.proofs.ChildCodes.{codes_lead}
use Rattle.cells.specs.Edits.{EveryTable}
use Rattle.placing.specs.Search.{Codes}
use Rattle.growing.specs.Branches.{growth, Grown}
use Rattle.insertion.specs.Inserting.{collision, relocated, PlacesAnew, MovesAndGrows, Extended}
use Rattle.cells.proofs.Shown.{shown_small}
use Rattle.growing.proofs.Leaving.{fits_left, unfit_left, unfit_says}
use Rattle.insertion.proofs.DoneOrNoRoom.{done, no_room}

-- Behind the first of some codes.
behind_first : (c : ℕ) (cs : List ℕ) → behind (c ∷ cs) ≡ cs
behind_first c cs = take_all (length (c ∷ cs) - 1) cs (omega arith)

module _ {base check : List ℤ} {s : ℕ} {rest : List ℕ} {row : ℕ} {codes : List ℕ} {t : Table} (a : PlacesAnew base check s rest row codes t) where
  abbrev T : Cells
  T = t.cells

  abbrev size : ℕ
  size = t.size

  abbrev c : ℕ
  c = first_label document01 rest

  -- ---- the codes

  each_code : (d : ℕ) → Among d codes → (1 ≤ d) × (d ≤ GREATEST)
  each_code d m = go (rw a.codes_are at m)
    where
      go : Among d (c ∷ child_codes T s GREATEST) → (1 ≤ d) × (d ≤ GREATEST)
      go (inl e) = (omega (arith, a.extends.low), omega (arith, label_high document01 document01_round_trip (omega arith) rest))
      go (inr k) = let (low, high, n) = codes_lead T s GREATEST d k in (low, high)

  pub anew_codes : Codes codes
  anew_codes = record { some = rw a.codes_are (omega arith); small = λ d m. (each_code d m).1 }

  children : behind codes ≡ child_codes T s GREATEST
  children = ap behind a.codes_are ∙ behind_first c (child_codes T s GREATEST)

  codes_again : codes ≡ c ∷ behind codes
  codes_again = a.codes_are ∙ ap (λ (cs : List ℕ). c ∷ cs) (sym children)

  module _ {q : ℕ} (is : q ≡ placed (used T) size codes) where
    pub base_small : q ≤ 65535
    base_small = omega (
      arith,
      is,
      shown_small a.extends.shown,
      placed_within (used T) size (past_unused a.extends.tree) codes a.extends.tree.some (λ d m. (each_code d m).0),
    )

    pub greatest_small : greatest_of codes ≤ GREATEST
    greatest_small = greatest_within codes GREATEST (λ d m. (each_code d m).1)

    module _ {g : ℕ} (high : g ≡ greatest_of codes) where
      -- The greatest cell.
      abbrev far : ℕ
      far = q + g

      is_far : far ≡ q + greatest_of codes
      is_far = ap (λ n. q + n) high

      pub moves : far ≤ last_cell base → MovesAndGrows base check s rest row q far (behind codes) t
      moves h = record {
        extends = a.extends;
        codes_are = children;
        placed_is = rw (← codes_again) is;
        far_is = rw (← codes_again) is_far;
        fits = h;
      }

      -- The course of the rest after the move.
      abbrev on : Course
      on = growth (last_cell base) (relocated t s q far) s rest row

      collision_fitted : (collision (last_cell base) t s rest row).fitted ≡ (leb far (last_cell base) && on.fitted)
      unfolding collide fits
      collision_fitted = rw (← a.codes_are, ← is, ← is_far) refl

      collision_table : (collision (last_cell base) t s rest row).table ≡ on.table
      unfolding collide
      collision_table = rw (← a.codes_are, ← is, ← is_far) refl

      collision_count : (collision (last_cell base) t s rest row).count ≡ length codes - 1
      unfolding collide
      collision_count = omega (arith, ap length a.codes_are)

      pub past_last : length base ≤ far → Extended (collision (last_cell base) t s rest row) t (Err NoRoom) base check
      past_last h =
          let past : last_cell base < far = omega (arith, (lengths_within base check a.extends.shown.lengths).0) in
          no_room (collision_fitted ∙ rw (lt-leb far (last_cell base) past) refl) a.extends.shown

      module _ (h : far ≤ last_cell base) where
        fitted_on : (collision (last_cell base) t s rest row).fitted ≡ on.fitted
        fitted_on = collision_fitted ∙ rw (le-leb far (last_cell base) h) refl

        -- What the move and the growth leave, with the answer r.
        abbrev Moves : Result (Unit {0}) Refusal → List ℤ → List ℤ → Type 0
        Moves r base' check' = EveryTable (MovesAndGrows base check s rest row q far (behind codes))
            (λ t. Grown (growth (last_cell base) (relocated t s q far) s rest row) t r base' check')

        module _ {base' check' : List ℤ} where
          pub all_placed : {x : Unit {0}} → Moves (Ok x) base' check' →
              Extended (collision (last_cell base) t s rest row) t (counted (length codes - 1)) base' check'
          all_placed f =
              let (fitted, shown) = fits_left (f t (moves h)) refl in
              subst (λ n. Extended (collision (last_cell base) t s rest row) t (counted n) base' check') collision_count (done (fitted_on ∙ fitted) (rw collision_table shown))

          pub not_placed : {x : Refusal} → Moves (Err x) base' check' →
              Extended (collision (last_cell base) t s rest row) t (Err x) base' check'
          not_placed f =
              let (unfitted, shown) = unfit_left (f t (moves h)) refl in
              rw (unfit_says (f t (moves h))) (no_room (fitted_on ∙ unfitted) shown)

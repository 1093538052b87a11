-- A node that collides: what the search, the move of its children and the way back are asked, and what they leave. Assumes nothing.
use mathlib.Core.Path.{◌≡◌, refl, sym, ◌∙◌}
use mathlib.Core.Logic.{inl, inr}
use mathlib.Core.Bool.{true, false}
use mathlib.Core.List.{List, ◌∷◌}
use Prim.Native.Nat.{ℕ, ◌+◌, ◌≤◌, max}
use native.Mathlib.Omega.{arith}
use lib.ListN.{length}
use lib.IntN.{ℤ}
use Rattle.std.specs.Prelude.{Result}
use Rattle.std.specs.Result.{is_err}
use Rattle.numbers.specs.Stored.{plus_at}
use Rattle.rules.specs.declared.Refusal.{Refusal}
use Rattle.rules.specs.WhatTheIndexDoes.{GREATEST, document01, last_cell}
use Rattle.rules.specs.Table.{Cells, Table, used, child_codes}
use Rattle.rules.specs.Insertion.{relocate, Course}
use Rattle.rules.proofs.Codes.{document01_round_trip}
use Rattle.rules.proofs.Lengths.{lengths_within}
use Rattle.tree.specs.Soundness.{Tree}
use Rattle.tree.specs.Moved.{Fit}
use Rattle.tree.specs.Labels.{first_label}
use Rattle.tree.specs.Members.{Among}
use Rattle.tree.proofs.Labels.{label_high}
use Rattle.tree.proofs.UsedCells.{parentless_unused}
use Rattle.tree.proofs.Trees.{based_pos, tree_sized, past_unused}
use Rattle.tree.proofs.Placement.{among_greatest}
use Rattle.tree.proofs.ChildCodes.{children_inside}
use Rattle.tree.proofs.Relocation.{codes_moved}
use Rattle.tree.proofs.ThereAndBack.{fit_back, relocate_back}
use Rattle.tree.proofs.Collisions.{collide_fit, collide_tree, collide_base, collide_place}
use Rattle.cells.specs.Edits.{Shown, EveryTable, sized, celled, Widens, Shrinks}
use Rattle.moving.specs.Children.{Relocates}
use Rattle.growing.specs.Branches.{growth, Grows, Grown}
use Rattle.insertion.specs.Inserting.{relocated, MovesAndGrows}
use Rattle.cells.proofs.Shown.{shown_small, shown_size, shown_base}
use Rattle.insertion.proofs.Extending.{s_inside}
use Rattle.growing.proofs.Leaving.{fits_left, unfit_left}

module _ {base check : List ℤ} {s : ℕ} {rest : List ℕ} {row q far : ℕ} {codes : List ℕ} {t : Table}
    (m : MovesAndGrows base check s rest row q far codes t) where
  abbrev T : Cells
  T = t.cells

  abbrev size : ℕ
  size = t.size

  abbrev c : ℕ
  c = first_label document01 rest

  abbrev tree : Tree document01 T size
  tree = m.extends.tree

  -- The children moved, and the size that holds them and the new cell.
  abbrev R : Cells
  R = relocate T s q

  abbrev wide : ℕ
  wide = max size far

  -- ---- the move

  fit : Fit T s (T s).base q
  fit = rw (m.placed_is, m.codes_are) (collide_fit tree s c m.extends.based)

  tree_then : Tree document01 R wide
  tree_then = rw (m.far_is, m.placed_is, m.codes_are) (collide_tree tree s c m.extends.based)

  base_then_lem : (R s).base ≡ q
  base_then_lem = rw (m.placed_is, m.codes_are) (collide_base tree s c m.extends.based)

  codes_then : codes ≡ child_codes R s GREATEST
  unfolding relocate
  codes_then = m.codes_are ∙ sym (codes_moved tree fit GREATEST)

  codes_inside : (d : ℕ) → Among d codes → q + d ≤ wide
  codes_inside d a = omega (arith, m.far_is, among_greatest (c ∷ codes) d (inr a))

  -- Where the children were, they lie within the size.
  old_inside : (d : ℕ) → Among d codes → (T s).base + d ≤ size
  old_inside d a = children_inside tree s d (rw m.codes_are at a)

  cell_then : used R ((R s).base + c) ≡ false
  cell_then =
      let high = label_high document01 document01_round_trip (omega arith) rest in
      let e = m.extends in
      let p = rw (← m.codes_are, ← m.placed_is) at (collide_place tree s c e.based e.nowhere e.low high) in
      parentless_unused R ((R s).base + c) (λ e. omega (arith, base_then_lem, fit.new, m.extends.low)) p.clear

  base_read : {b : ℕ} → b ≡ plus_at base s → b ≡ (T s).base
  base_read e = e ∙ shown_base m.extends.shown s (based_pos tree s m.extends.based)

  came_back : {b : ℕ} → b ≡ plus_at base s → relocate R s b ≡ T
  came_back e = rw (base_read e) (relocate_back tree s q fit)

  -- ---- there

  pub widens : Widens base check far t
  widens = record { shown = m.extends.shown; fits = m.fits }

  module _ {base₁ check₁ : List ℤ} (widened : EveryTable (Widens base check far) (λ t. Shown base₁ check₁ (sized t (max t.size far)))) where
    -- The children are to move to base q.
    pub there : Relocates base₁ check₁ s q codes (sized t wide)
    there = record {
      shown = widened t widens;
      tree = tree_sized tree wide (omega (arith, tree.some)) (λ u h. omega (arith, tree.inside u h));
      fit = fit;
      small = omega (arith, m.far_is, m.fits, (lengths_within base check m.extends.shown.lengths).1);
      codes_are = m.codes_are;
      inside = codes_inside;
    }

    module _ {base₂ check₂ : List ℤ} (long : length base₂ ≡ length base)
        (moved : EveryTable (Relocates base₁ check₁ s q codes) (λ t. Shown base₂ check₂ (celled t (relocate t.cells s q)))) where
      -- The rest is to grow from s.
      pub grows : Grows base₂ check₂ s rest row (relocated t s q far)
      grows = record {
        leads = record {
          shown = moved _ there;
          some = based_pos tree s m.extends.based;
          inside = omega (arith, s_inside m.extends);
          based = rw base_then_lem fit.new;
          unused = cell_then;
          fits = let within = (lengths_within base check m.extends.shown.lengths).0 in
              omega (arith, base_then_lem, m.far_is, m.fits, among_greatest (c ∷ codes) c (inl refl));
        };
        row_is = m.extends.row_is;
      }

      module _ {r : Result (Unit {0}) Refusal} {base₃ check₃ : List ℤ}
          (grew : EveryTable (Grows base₂ check₂ s rest row) (λ t. Grown (growth (last_cell base₂) t s rest row) t r base₃ check₃)) where
        -- The course of the rest, from where the children are.
        abbrev course : Course
        course = growth (last_cell base) (relocated t s q far) s rest row

        grown : Grown course (relocated t s q far) r base₃ check₃
        grown = rw (← long) (grew _ grows)

        pub all_fit : is_err r ≡ false → Grown course t r base₃ check₃
        all_fit e = record { fitted = grown.fitted; left = let (f, shown) = fits_left grown e in rw f shown }

        -- ---- and back, where a later label does not fit

        module _ (unfit : is_err r ≡ true) {b : ℕ} (was : b ≡ plus_at base s) where
          -- The children are to move back.
          pub back : Relocates base₃ check₃ s b codes (relocated t s q far)
          unfolding relocate
          back = record {
            shown = (unfit_left grown unfit).1;
            tree = tree_then;
            fit = rw (base_then_lem, base_read was) (fit_back tree fit);
            small = omega (arith, base_read was, m.extends.near, shown_small m.extends.shown);
            codes_are = codes_then;
            inside = λ d a. omega (arith, base_read was, old_inside d a);
          }

          module _ {base₄ check₄ : List ℤ}
              (again : EveryTable (Relocates base₃ check₃ s b codes) (λ t. Shown base₄ check₄ (celled t (relocate t.cells s b))))
              {n : ℕ} (held : n ≡ plus_at base 0) where
            size_is : n ≡ size
            size_is = held ∙ shown_size m.extends.shown

            -- The size is to fall to what it was.
            pub shrinks : Shrinks base₄ check₄ n (sized t wide)
            shrinks = record {
              shown = rw (came_back was) at (again _ back);
              some = omega (arith, size_is, tree.some);
              less = omega (arith, size_is);
              past = λ u h. past_unused tree u (omega (arith, size_is));
            }

            pub all_back : {base₅ check₅ : List ℤ} → EveryTable (Shrinks base₄ check₄ n) (λ t. Shown base₅ check₅ (sized t n)) →
                Grown course t r base₅ check₅
            all_back f = record { fitted = grown.fitted; left = rw (unfit_left grown unfit).0 (rw size_is at (f _ shrinks)) }

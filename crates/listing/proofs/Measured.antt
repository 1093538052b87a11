-- The listing of two arrays that hold a sound table is as long as their leaves' lines together. Assumes nothing.
use mathlib.Core.Path.{◌≡◌, refl, sym, ap, ◌∙◌}
use mathlib.Core.Bool.{true}
use mathlib.Core.List.{List, [], ◌∷◌}
use Prim.Native.Nat.{ℕ, zero, suc, ◌+◌, ◌*◌, ◌≤◌}
use native.Mathlib.Omega.{arith}
use lib.ListN.{length}
use lib.IntN.{ℤ}
use borrow.Author.Tests.{eq-eqb, ne_eqb}
use Rattle.numbers.specs.Stored.{plus_at}
use Rattle.rules.specs.WhatTheIndexDoes.{Profile, document01}
use Rattle.rules.specs.Table.{Cells, node}
use Rattle.rules.specs.ASoundTable.{sound, size_at}
use Rattle.rules.specs.Listing.{listing}
use Rattle.rules.specs.Rendering.{read_cells, read_table}
use Rattle.tree.specs.Soundness.{Tree}
use Rattle.tree.specs.Sums.{sum_to}
use Rattle.tree.proofs.Elements.{read_parent}
use Rattle.tree.proofs.Finding.{row_same}
use Rattle.tree.proofs.SevenRules.{rules_render}
use Rattle.tree.proofs.Steps.{last_step}
use Rattle.tree.proofs.Trees.{based_pos, row_pos, step_far}
use Rattle.listing.specs.Visiting.{DEEPEST}
use Rattle.listing.specs.Measuring.{steps_at, line_at}
use Rattle.tree.proofs.Sums.{sum_same}
use Rattle.tree.proofs.LeafByLeaf.{listing_sum}

module _ (base check : List ℤ) where
  abbrev T : Cells
  T = read_cells base check

  -- The steps from a cell to the root are the labels of the path to it.
  steps_path : {P : Profile} {size : ℕ} → Tree P T size → (k : ℕ) (p : List ℕ) {t : ℕ} → node T p ≡ t → 1 ≤ t → length p ≤ k →
      steps_at check k t ≡ length p
  unfolding node steps_at
  steps_path w zero [] e h l = refl
  steps_path w (suc k) [] {t} e h l = rw (eq-eqb t 1 (sym e))
  steps_path w zero (c ∷ p) e h l = absurd (omega arith)
  steps_path w (suc k) (c ∷ p) {t} e h l =
      let u = last_step T c p e h in
      let v : plus_at check t ≡ node T p = sym (read_parent base check t (step_far w u)) ∙ u.back in
      rw (ne_eqb t 1 (λ i. omega (arith, step_far w u)), v) (ap suc (steps_path w k p refl (based_pos w (node T p) u.based) (omega arith)))

  pub listing_measured : sound document01 base check ≡ true → length (listing document01 T) ≡ sum_to (size_at base) (line_at base check)
  unfolding line_at read_table
  listing_measured whole =
      let r = rules_render document01 base check whole in
      listing_sum r.table (λ t. 9 + 2 * steps_at check DEEPEST t)
      (λ p t e h. let l = (r.table.deep p (omega (arith, ap (λ (x : ℕ). (T x).row) e))).1 in
      ap (λ (n : ℕ). 9 + 2 * n) (steps_path r.table.tree DEEPEST p e (row_pos r.table.tree t h) l))
      ∙ sum_same (size_at base) _ (line_at base check) (λ t l h. rw (row_same r t))

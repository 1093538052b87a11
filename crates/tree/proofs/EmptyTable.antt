-- The empty table is sound, and holds no identifier; fresh leaves its rendering. Assumes nothing.
use mathlib.Core.Path.{◌≡◌, refl, sym, ap, ap₂, ◌∙◌}
use mathlib.Core.Logic.{◌≢◌, ⊎_elim}
use mathlib.Core.Bool.{true}
use mathlib.Core.List.{List, ◌∷◌}
use Prim.Native.Nat.{ℕ, zero, suc, ◌-◌, ◌≤◌}
use native.Mathlib.Omega.{arith}
use lib.ListN.{length, replicate}
use lib.IntN.{ℤ}
use borrow.Author.Tests.{eq-eqb, ne_eqb}
use Rattle.numbers.specs.Stored.{positive}
use Rattle.numbers.proofs.Cases.{same?}
use Rattle.rules.specs.Ranges.{first_from}
use Rattle.rules.specs.WhatTheIndexDoes.{Profile, right_lengths}
use Rattle.rules.specs.Table.{free, inner, update, empty, used, node, lookup}
use Rattle.rules.specs.ASoundTable.{sound, fresh_base, fresh_check}
use Rattle.rules.specs.Rendering.{next_free, chained, base_holds, base_of, check_of, elements, render_base, render_check, read_table}
use Rattle.rules.proofs.Choices.{join}
use Rattle.rules.proofs.Ranges.{inside}
use Rattle.tree.specs.Soundness.{Sound}
use Rattle.tree.specs.Renders.{Renders}
use Rattle.tree.proofs.UsedCells.{parentless_unused}
use Rattle.tree.proofs.OneCell.{update_at, update_off}
use Rattle.tree.proofs.Elements.{check_past, base_length, check_length}
use Rattle.tree.proofs.SevenRules.{one_table, render_rules}

root : empty.cells 1 ≡ inner 0 1
unfolding empty
root = update_at (λ u. free) 1 (inner 0 1)

others : (t : ℕ) → t ≢ 1 → empty.cells t ≡ free
unfolding empty
others = update_off (λ u. free) 1 (inner 0 1)

no_parent : (t : ℕ) → (empty.cells t).parent ≡ 0
no_parent t = ⊎_elim (λ (e : t ≡ 1). rw (e, root)) (λ d. ap (λ x. x.parent) (others t d)) (same? t 1)

no_row : (t : ℕ) → (empty.cells t).row ≡ 0
no_row t = ⊎_elim (λ (e : t ≡ 1). rw (e, root)) (λ d. ap (λ x. x.row) (others t d)) (same? t 1)

pub empty_sound : (P : Profile) → Sound P empty
unfolding empty
empty_sound P = record {
  tree = record {
    nowhere = others 0 (λ e. omega arith);
    root_parent = no_parent 1;
    root_base = rw root (omega arith);
    root_row = no_row 1;
    blank = λ t d z. others t d;
    sits = λ t h. absurd (omega (arith, no_parent t));
    reach = λ t h. absurd (omega (arith, no_parent t));
    some = omega arith;
    inside = λ t h. absurd (omega (arith, no_parent t));
  };
  fruit = λ u d h k. absurd (omega (arith, no_parent u));
  bare = λ none. ap (λ x. x.base) root;
  deep = λ path h. absurd (omega (arith, no_row (node empty.cells path)));
}

pub empty_lookup : (P : Profile) (key : List ℕ) → lookup P empty.cells key ≡ 0
unfolding lookup
empty_lookup P key = no_row _

-- ---- the two arrays that fresh leaves

-- Elements that all are one number.
elements_alike : (f : ℕ → ℤ) (z : ℤ) (n i : ℕ) → ((j : ℕ) → i ≤ j → f j ≡ z) → elements f n i ≡ replicate n z
unfolding elements
elements_alike f z zero i h = refl
elements_alike f z (suc n) i h = ap₂ ◌∷◌ (h i (omega arith)) (elements_alike f z n (suc i) (λ j l. h j (omega arith)))

-- Elements that are 0 from the third on.
elements_blank : (f : ℕ → ℤ) (n : ℕ) → 2 ≤ n → ((j : ℕ) → 2 ≤ j → f j ≡ positive 0) → f 0 ∷ f 1 ∷ replicate (n - 2) (positive 0) ≡ elements f n 0
unfolding elements
elements_blank f n low h =
    let m : suc (suc (n - 2)) ≡ n = omega arith in
    ap (λ (zs : List ℤ). f 0 ∷ f 1 ∷ zs) (sym (elements_alike f (positive 0) (n - 2) 2 h)) ∙ ap (λ (k : ℕ). elements f k 0) m

base_blank : (j : ℕ) → 2 ≤ j → base_of empty j ≡ positive 0
unfolding base_of base_holds
base_blank j h = rw (others j (λ e. omega arith), ne_eqb j 0 (λ e. omega arith))

check_blank : (P : Profile) (j : ℕ) → 2 ≤ j → check_of chained P empty j ≡ positive 0
unfolding empty
check_blank P j h = check_past chained P empty j (parentless_unused empty.cells j (λ e. omega arith) (no_parent j)) (omega arith)

module _ (P : Profile) (n : ℕ) (low : 2 ≤ n) where
  fresh_base_lem : fresh_base n ≡ render_base n empty
  unfolding fresh_base render_base base_of base_holds empty update
  fresh_base_lem = elements_blank (base_of empty) n low base_blank

  fresh_check_lem : fresh_check P n ≡ render_check chained P n empty
  unfolding fresh_check render_check check_of next_free first_from used empty update
  fresh_check_lem = elements_blank (check_of chained P empty) n low (check_blank P)

  base_long : length (fresh_base n) ≡ n
  base_long = ap length fresh_base_lem ∙ base_length empty n

  check_long : length (fresh_check P n) ≡ n
  check_long = ap length fresh_check_lem ∙ check_length chained P empty n

  module _ (high : n ≤ 65536) where
    -- Fresh leaves the rendering of the empty table.
    pub fresh_renders : Renders chained P (fresh_base n) (fresh_check P n) empty
    unfolding right_lengths empty
    fresh_renders = record {
      lengths = rw (base_long, check_long) (join (eq-eqb n n refl) (inside 2 65536 n low high));
      table = empty_sound P;
      fits = omega (arith, base_long);
      base_is = rw base_long fresh_base_lem;
      check_is = rw base_long fresh_check_lem;
    }

    -- It passes the audit.
    pub fresh_sound : sound P (fresh_base n) (fresh_check P n) ≡ true
    fresh_sound = render_rules P (fresh_base n) (fresh_check P n) empty fresh_renders

    -- It holds no identifier.
    pub fresh_lookup : (key : List ℕ) → lookup P (read_table (fresh_base n) (fresh_check P n)).cells key ≡ 0
    fresh_lookup key = rw (← one_table empty fresh_renders) (empty_lookup P key)

-- What the audit asks is enough: two arrays that keep it hold a sound table. Assumes nothing.
use mathlib.Core.Path.{◌≡◌, refl, sym, ap, ◌∙◌}
use mathlib.Core.Logic.{◌≢◌, inl, inr, ⊎_elim}
use mathlib.Core.Bool.{Bool, true, false, cond, not, ◌&&◌, true≢false, or-true}
use mathlib.Core.List.{List}
use Prim.Native.Nat.{ℕ, suc, ◌+◌, ◌≤◌}
use native.Mathlib.Omega.{arith}
use lib.ListN.{length, get_or}
use lib.IntN.{ℤ}
use lib.Dec.{leb, eqb}
use borrow.Author.Tests.{eq-eqb, ne_eqb, eqb-true, eqb-false, le-leb, leb-true}
use Rattle.numbers.specs.Stored.{positive, plus_of, plus_at, minus_at}
use Rattle.numbers.proofs.Laws.{one_side, sides, at_inside}
use Rattle.numbers.proofs.Cases.{lt_or_ge, same?, some?}
use Rattle.rules.specs.Ranges.{within}
use Rattle.rules.specs.WhatTheIndexDoes.{END, Profile, is_row}
use Rattle.rules.specs.Table.{Cells, used}
use Rattle.rules.specs.ASoundTable.{size_at, home, used_at, free_at, next_free_at, has_child, code_at, others}
use Rattle.rules.specs.ASoundTable.{rule2, rule3, rule4, rule5, rule6, rule7, sound}
use Rattle.rules.specs.Rendering.{read_cells}
use Rattle.rules.proofs.Choices.{branch, join}
use Rattle.rules.proofs.Lengths.{lengths_same}
use Rattle.rules.proofs.Ranges.{inside}
use Rattle.tree.proofs.UsedCells.{unused_other, unused_parent}
use Rattle.tree.proofs.Elements.{read_parent}
use Rattle.tree.proofs.ReadTests.{is_holds, off_end, Bounded, rule_first, parent_far, used_parent, to_unused, to_others}
use Rattle.tree.proofs.SevenRules.{root_mark}
use Rattle.audit.specs.Kept.{Nought, FirstKept, FreeKept, UsedKept, CellsKept}
use Rattle.audit.specs.Ways.{most, Closed, WayKept, WaysUpTo}
use Rattle.audit.proofs.NextFree.{next_free_past, next_free_on}
use Rattle.audit.proofs.Depths.{home_up, home_none, home_longer, home_never}

nought_element : {xs : List ℤ} {i : ℕ} → Nought xs i → get_or xs i (positive 0) ≡ positive 0
nought_element n = sides _ (positive 0) n.above n.below

module _ {P : Profile} {base check : List ℤ} {size : ℕ} (first : FirstKept base check size) (kept : CellsKept P base check) where
  -- Past the size no cell has a parent.
  parent_inside : (t : ℕ) → 1 ≤ plus_at check t → t ≤ size_at base
  parent_inside t u = ⊎_elim
      (λ h. absurd (omega (arith, (first.past t h (rw (lengths_same base check first.lengths) (at_inside plus_of refl check t u))).1.above)))
      (λ h. h)
      (lt_or_ge (size_at base) t)

  used_kept : (t : ℕ) → 2 ≤ t → 1 ≤ plus_at check t → UsedKept P base t (plus_at check t)
  used_kept t far u = (kept.cells t far (parent_inside t u)).used u

  -- A cell with a positive base is used, for a free cell's base is 0.
  based_parent : (s : ℕ) → 2 ≤ s → s ≤ size_at base → 1 ≤ plus_at base s → 1 ≤ plus_at check s
  based_parent s far high b =
      ⊎_elim (λ z. absurd (omega (arith, ((kept.cells s far high).free z).bare.above))) (λ h. h) (some? (plus_at check s))

  pub kept_closed : Closed check
  kept_closed t far u = let k = used_kept t far u in
      ⊎_elim inl (λ d. inr (based_parent (plus_at check t) (omega arith) k.inside k.based)) (same? (plus_at check t) 1)

  module _ (root : rule4 P base check ≡ true) (ways : WaysUpTo P base check (size_at base)) where
    abbrev T : Cells
    T = read_cells base check

    -- ---- rule 1

    bounded : Bounded base check
    bounded = record {
      lengths = first.lengths;
      some = omega arith;
      fits = omega arith;
      past = λ i h. ⊎_elim
          (λ l. let (b, c) = first.past i h l in (nought_element b, nought_element c))
          (off_end base check first.lengths i)
          (lt_or_ge i (length base));
    }

    -- ---- rules 2 and 3

    free_kept : (i : ℕ) → 1 ≤ i → i ≤ size_at base → used T i ≡ false → FreeKept base check i (next_free_at base check i)
    free_kept i low high u =
        let far : 2 ≤ i = (let d : i ≢ 1 = unused_other T i u in omega arith) in
        (kept.cells i far high).free (sym (read_parent base check i far) ∙ unused_parent T i u)

    second : rule2 base check ≡ true
    unfolding rule2 free_at
    second = to_unused bounded _ (λ i low high u. let k = free_kept i low high u in
        join (le-leb 1 (minus_at check i) (omega (arith, next_free_past base check i))) (is_holds base i 0 (nought_element k.bare)))

    third : rule3 base check ≡ true
    unfolding rule3
    third = join
        (eq-eqb _ _ (kept.first ∙ sym (next_free_on base check 0 (omega arith) (root_mark P base check root))))
        (to_unused bounded _ (λ i low high u. eq-eqb _ _ (free_kept i low high u).link))

    -- ---- rules 5 to 7

    -- A test of every used cell but the root.
    each_used : (test : ℕ → Bool) → ((t : ℕ) → 2 ≤ t → 1 ≤ plus_at check t → test t ≡ true) → others base check test ≡ true
    each_used test h = to_others bounded test (λ t u. h t (parent_far bounded t u) (rw (used_parent bounded t u) at u))

    module _ (t : ℕ) (far : 2 ≤ t) (u : 1 ≤ plus_at check t) where
      cell : UsedKept P base t (plus_at check t)
      cell = used_kept t far u

      way : WayKept P base check t
      way = ways t far (parent_inside t u) u

      other : t ≢ 1
      other e = omega arith

      -- ---- rule 5

      live_parent : used_at base check (plus_at check t) ≡ true
      unfolding used_at
      live_parent = rw (inside 1 (size_at base) (plus_at check t) u cell.inside) (⊎_elim
          (λ e. rw (eq-eqb (plus_at check t) 1 e))
          (λ h. rw (le-leb 1 (plus_at check (plus_at check t)) h, or-true))
          (kept_closed t far u))

      parent_apart : not (eqb (plus_at check t) t) ≡ true
      parent_apart = ap not (ne_eqb (plus_at check t) t (λ e. true≢false (sym way.climbs ∙ home_never check t other e (most P))))

      code_within : within 1 P.greatest (code_at base check t) ≡ true
      unfolding code_at
      code_within = inside 1 P.greatest _ (omega (arith, cell.low)) (omega (arith, cell.high))

      -- ---- rule 6

      kind : cond (eqb (code_at base check t) END) (is_row (minus_at base t)) (leb 1 (plus_at base t) && has_child base check t) ≡ true
      unfolding code_at
      kind = branch (λ x. x ≡ true) (eqb (code_at base check t) END)
          (λ e. (cell.leaf (omega (arith, cell.low, eqb-true (code_at base check t) END e))).1)
          (λ e. let h = cell.inner (λ v. eqb-false (code_at base check t) END e (omega arith)) in join (le-leb 1 (plus_at base t) h) (way.fruit h))

      -- ---- rule 7

      leaf_parent : 1 ≤ minus_at base t → plus_at check t ≢ 1
      leaf_parent h = ⊎_elim
          (λ v. (cell.leaf v).0)
          (λ d. absurd (omega (arith, one_side (get_or base t (positive 0)) (cell.inner d))))
          (same? t (plus_at base (plus_at check t) + END))

      leaf_deep : 1 ≤ minus_at base t → home check 1 t ≡ false
      leaf_deep h = home_up check 0 t other ∙ home_none check (plus_at check t) (leaf_parent h)

      leaf_climbs : cond (leb 1 (minus_at base t)) (home check (suc P.limit) t && not (home check 1 t)) true ≡ true
      leaf_climbs = branch (λ x. x ≡ true) (leb 1 (minus_at base t))
          (λ h. join way.climbs (ap not (leaf_deep (leb-true 1 (minus_at base t) h))))
          (λ h. refl)

      climbs : home check (length check + P.limit) t ≡ true
      climbs = home_longer check (most P) (length check + P.limit) t (omega (arith, lengths_same base check first.lengths)) way.climbs

    -- ---- all seven

    fifth : rule5 P base check ≡ true
    unfolding rule5
    fifth = each_used _ (λ t far u. join (live_parent t far u) (join (parent_apart t far u)
        (join (le-leb 1 _ (cell t far u).based) (code_within t far u))))

    sixth : rule6 P base check ≡ true
    unfolding rule6
    sixth = each_used _ kind

    seventh : rule7 P base check ≡ true
    unfolding rule7
    seventh = each_used _ (λ t far u. join (climbs t far u) (leaf_climbs t far u))

    pub kept_sound : sound P base check ≡ true
    unfolding sound
    kept_sound = join (rule_first base check bounded) (join second (join third (join root (join fifth (join sixth seventh)))))

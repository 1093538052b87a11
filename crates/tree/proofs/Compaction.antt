-- Compaction keeps a sound table sound and every row where it was, and leaves no size past the largest used cell. Assumes nothing.
use mathlib.Core.Path.{◌≡◌, refl, sym, ap, ◌∙◌}
use mathlib.Core.Bool.{◌&&◌, true≢false}
use mathlib.Core.List.{List, reverse}
use Prim.Native.Nat.{ℕ, zero, suc, ◌+◌, ◌≤◌, ◌<◌}
use native.Mathlib.Omega.{arith}
use lib.Dec.{ltb, eqb}
use borrow.Author.Tests.{lt-ltb, ltb-true}
use Rattle.rules.specs.WhatTheIndexDoes.{Profile, labels}
use Rattle.rules.specs.Table.{Table, used, largest_used, next, lookup, child_codes}
use Rattle.rules.specs.Insertion.{relocate}
use Rattle.rules.specs.DeletionAndCompaction.{Moves, trimmed, compaction_step, compaction_steps, compacted}
use Rattle.rules.proofs.Choices.{branch, both, join}
use Rattle.tree.specs.Soundness.{Sits, Sound}
use Rattle.tree.specs.Moved.{Fit}
use Rattle.tree.specs.StepsTaken.{top, owner, target, Lowers}
use Rattle.tree.specs.AfterAnEdit.{Now, Same, Trimmed}
use Rattle.tree.proofs.Steps.{step_next, lookup_same}
use Rattle.tree.proofs.Trees.{past_unused}
use Rattle.tree.proofs.PlacedChildren.{placed_fit}
use Rattle.tree.proofs.Relocation.{s_pos, row_moved}
use Rattle.tree.proofs.RelocatedTree.{relocate_sound}
use Rattle.tree.proofs.LargestUsed.{largest_used_lem, largest_low, largest_parent, largest_again, trimmed_tree}

-- The size is the largest used cell up to the size.
abbrev Tight : Table → Type 0
Tight t = t.size ≡ largest_used t.cells t.size

-- ---- the two cases of a step

module _ (P : Profile) (t : Table) where
  -- What a step leaves that moves, and one that does not.
  abbrev pub move : Moves
  move = record { table = trimmed (relocate t.cells (owner P t) (target P t)) t.size; count = 1 }

  abbrev pub stay : Moves
  stay = record { table = trimmed t.cells t.size; count = 0 }

  pub step_cases : (F : Moves → Type 0) → (Lowers P t → F move) → ((Lowers P t → ⊥) → F stay) → F (compaction_step P t)
  unfolding compaction_step
  step_cases F f g = branch F (ltb 1 (top P t) && ltb (target P t) (t.cells (owner P t)).base)
      (λ e. let (h, k) = both _ _ e in f (record { below = ltb-true _ _ h; lower = ltb-true _ _ k }))
      (λ e. g (λ l. true≢false (sym (join (lt-ltb _ _ l.below) (lt-ltb _ _ l.lower)) ∙ e)))

  pub step_less : 1 ≤ t.size → (compaction_step P t).table.size ≤ t.size
  unfolding trimmed
  step_less h = step_cases (λ m. m.table.size ≤ t.size) (λ _. largest_low _ t.size h) (λ _. largest_low _ t.size h)

  pub step_trimmed : trimmed (compaction_step P t).table.cells t.size ≡ (compaction_step P t).table
  unfolding trimmed
  step_trimmed = step_cases (λ m. trimmed m.table.cells t.size ≡ m.table) (λ _. refl) (λ _. refl)

  step_tight : Tight (compaction_step P t).table
  unfolding trimmed
  step_tight = step_cases (λ m. Tight m.table) (λ _. sym (largest_again _ t.size)) (λ _. sym (largest_again _ t.size))

-- ---- a step

module _ {P : Profile} where
  same_again : {t t' t'' : Table} → Same P t t' → Same P t' t'' → Same P t t''
  same_again a b = record { sound = b.sound; rows = λ r. b.rows r ∙ a.rows r; less = omega (arith, a.less, b.less) }

  pub same_lookup : {t t' : Table} → Same P t t' → (key : List ℕ) → lookup P t'.cells key ≡ lookup P t.cells key
  same_lookup {t} {t'} a key = lookup_same t.cells t'.cells P key (a.rows (reverse (labels P key)))

  -- What an edit meant is still meant.
  pub same_now : {t t' t'' : Table} {key : List ℕ} {n : ℕ} → Now P t key n t' → Same P t' t'' → Now P t key n t''
  same_now {key = key} a b = record {
    sound = b.sound;
    here = same_lookup b key ∙ a.here;
    else = λ j d. same_lookup b j ∙ a.else j d;
  }

  same_self : {t : Table} → Sound P t → Same P t t
  same_self w = record { sound = w; rows = λ r. refl; less = omega arith }

  pub trim_sound : {t : Table} → Sound P t → Sound P (trimmed t.cells t.size)
  unfolding trimmed
  trim_sound w = record { tree = trimmed_tree w.tree; fruit = w.fruit; bare = w.bare; deep = w.deep }

  trim_same : {t t' : Table} → Same P t t' → Same P t (trimmed t'.cells t'.size)
  unfolding trimmed
  trim_same {t} {t'} a = record {
    sound = trim_sound a.sound;
    rows = a.rows;
    less = omega (arith, largest_low t'.cells t'.size a.sound.tree.some, a.less);
  }

  module _ {t : Table} (w : Sound P t) (below : 1 < top P t) where
    -- The largest used cell sits below its parent, whose children can move to their placed base.
    pub top_sits : Sits P t.cells (top P t)
    top_sits = w.tree.sits (top P t) (largest_parent t.cells t.size below)

    pub target_fit : Fit t.cells (owner P t) (t.cells (owner P t)).base (target P t)
    target_fit = placed_fit w.tree (owner P t) top_sits.step.based (child_codes t.cells (owner P t) P.greatest) (λ c a. a)

  move_same : {t : Table} → Sound P t → Lowers P t → Same P t (record { cells = relocate t.cells (owner P t) (target P t); size = t.size })
  unfolding relocate
  move_same {t} w l =
      let k = top_sits w l.below in
      let m = target_fit w l.below in
      let b = (t.cells (owner P t)).base in
      let n : 1 ≤ next t.cells (owner P t) k.code = rw (step_next t.cells k.step) (omega arith) in
      let fits : (c : ℕ) → (t.cells (b + c)).parent ≡ owner P t → target P t + c ≤ t.size = (λ c e. omega (arith, l.lower, w.tree.inside (b + c) (rw e (s_pos w.tree m)))) in
      record {
        sound = relocate_sound w (owner P t) (target P t) m k.code n t.size (omega arith) fits;
        rows = row_moved w.tree m;
        less = omega arith;
      }

  pub step_same : {t : Table} → Sound P t → Same P t (compaction_step P t).table
  step_same {t} w = step_cases P t (λ m. Same P t m.table) (λ l. trim_same (move_same w l)) (λ _. trim_same (same_self w))

  -- ---- many steps

  steps_same : (n : ℕ) {t : Table} → Sound P t → Same P t (compaction_steps P n t).table
  unfolding compaction_steps
  steps_same zero w = same_self w
  steps_same (suc n) {t} w =
      let a = step_same w in
      branch (λ (m : Moves). Same P t m.table) (eqb (compaction_step P t).count 0) (λ e. a) (λ e. same_again a (steps_same n a.sound))

  pub compacted_same : (n : ℕ) {t : Table} → Sound P t → Same P t (compacted P n t).table
  unfolding compacted
  compacted_same n w = let a = trim_same (same_self w) in same_again a (steps_same n a.sound)

-- ---- the size

steps_tight : (P : Profile) (n : ℕ) (t : Table) → Tight t → Tight (compaction_steps P n t).table
unfolding compaction_steps
steps_tight P zero t e = e
steps_tight P (suc n) t e = branch (λ (m : Moves). Tight m.table) (eqb (compaction_step P t).count 0) (λ _. step_tight P t)
    (λ _. steps_tight P n (compaction_step P t).table (step_tight P t))

tight_trimmed : {P : Profile} {t : Table} → Sound P t → Tight t → Trimmed t
tight_trimmed {t = t} w e = record { last = ap (used t.cells) e ∙ largest_used_lem t.cells t.size; past = past_unused w.tree }

module _ {P : Profile} {t : Table} (w : Sound P t) where
  pub step_trims : Trimmed (compaction_step P t).table
  step_trims = tight_trimmed (step_same w).sound (step_tight P t)

  pub compacted_trims : (n : ℕ) → Trimmed (compacted P n t).table
  unfolding compacted trimmed
  compacted_trims n = tight_trimmed (compacted_same n w).sound (steps_tight P n (trimmed t.cells t.size) (sym (largest_again t.cells t.size)))

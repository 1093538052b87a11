-- What deleting an identifier means: it is gone, every other keeps its row, and the table stays sound and is trimmed. Assumes
-- nothing.
use mathlib.Core.Path.{◌≡◌, refl, sym, ap, ◌∙◌, subst}
use mathlib.Core.Bool.{true}
use mathlib.Core.List.{List, ◌∷◌, map, reverse}
use Prim.Native.Nat.{ℕ, ◌≤◌}
use Rattle.rules.specs.WhatTheIndexDoes.{END, Profile, RoundTrip, labels}
use Rattle.rules.specs.Table.{Table, free, update, node, lookup, childless}
use Rattle.rules.specs.DeletionAndCompaction.{prune, deleted}
use Rattle.tree.specs.Soundness.{Step, row_at, Sound}
use Rattle.tree.specs.AfterAnEdit.{Now, Trimmed}
use Rattle.tree.proofs.Steps.{last_step, lookup_row}
use Rattle.tree.proofs.Trees.{row_pos, held_leaf, step_held}
use Rattle.tree.proofs.ChildCodes.{childless_baseless}
use Rattle.tree.proofs.Identifiers.{path_labels, live_identifier}
use Rattle.tree.proofs.OneIdentifier.{meant_now}
use Rattle.tree.proofs.Pruning.{Dropped, prune_onward, prune_dropped}
use Rattle.tree.proofs.Compaction.{same_now, step_less, step_same, step_trims}

module _ {P : Profile} {t : Table} (w : Sound P t) (key : List ℕ) (live : 1 ≤ lookup P t.cells key) where
  -- ---- the leaf, behind the characters' path

  abbrev pub path : List ℕ
  path = reverse (map P.code key)

  abbrev pub leaf : ℕ
  leaf = node t.cells (END ∷ path)

  leaf_row : 1 ≤ row_at t.cells (END ∷ path)
  leaf_row = rw (lookup_row t.cells P key, path_labels P key) at live

  pub leaf_step : Step t.cells (node t.cells path) END leaf
  leaf_step = last_step t.cells END path refl (row_pos w.tree leaf leaf_row)

  pub leaf_childless : childless t.cells leaf P.greatest ≡ true
  leaf_childless = childless_baseless t.cells leaf P.greatest (held_leaf (step_held w.tree leaf_step) leaf_row).1

  pub prune_leaf : prune P t.cells (reverse (labels P key)) ≡ prune P (update t.cells leaf free) path
  prune_leaf = ap (prune P t.cells) (path_labels P key) ∙ prune_onward P t.cells END path leaf_childless

  -- ---- without it

  -- The table with the leaf and the parents that it leaves childless freed.
  abbrev pub cut : Table
  cut = record { cells = prune P t.cells (reverse (labels P key)); size = t.size }

  cut_dropped : Dropped P t.cells t.size (reverse (labels P key)) cut.cells
  cut_dropped = subst (λ (r : List ℕ). Dropped P t.cells t.size r (prune P t.cells r)) (sym (path_labels P key))
      (prune_dropped w.tree w.fruit END path leaf_row)

  pub cut_now : RoundTrip P → Now P t key 0 cut
  cut_now trip = let d = cut_dropped in meant_now w key 0 (live_identifier w key live) trip d.meant d.bare

  -- The identifier is gone, every other keeps its row.
  pub deleted_now : RoundTrip P → Now P t key 0 (deleted P t key)
  unfolding deleted
  deleted_now trip = let c = cut_now trip in same_now c (step_same c.sound)

  pub deleted_trims : RoundTrip P → Trimmed (deleted P t key)
  unfolding deleted
  deleted_trims trip = step_trims (cut_now trip).sound

pub deleted_less : (P : Profile) (t : Table) (key : List ℕ) → 1 ≤ t.size → (deleted P t key).size ≤ t.size
unfolding deleted
deleted_less P t key = step_less P (record { cells = prune P t.cells (reverse (labels P key)); size = t.size })

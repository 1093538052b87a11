-- A live identifier removed: its leaf becomes free, then each parent left without a child; then a step runs. Assumes nothing.
use mathlib.Core.Path.{◌≡◌, sym, ap, ◌∙◌}
use mathlib.Core.List.{List, map, reverse}
use Prim.Native.Nat.{ℕ, ◌+◌}
use lib.ListN.{length}
use lib.IntN.{ℤ}
use Rattle.numbers.specs.Stored.{plus_at}
use Rattle.rules.specs.WhatTheIndexDoes.{END, code_of, document01}
use Rattle.rules.specs.Table.{Table, free, update}
use Rattle.rules.specs.DeletionAndCompaction.{prune, compaction_step, deleted}
use Rattle.rules.proofs.Codes.{document01_round_trip}
use Rattle.tree.specs.Soundness.{Step}
use Rattle.tree.proofs.Trees.{based_pos, step_used, step_far}
use Rattle.tree.proofs.Identifiers.{codes_length}
use Rattle.tree.proofs.Pruning.{less_tree, parent_stays, parent_based}
use Rattle.tree.proofs.Deletion.{leaf, leaf_step, leaf_childless, prune_leaf, cut, cut_now}
use Rattle.cells.specs.Edits.{Shown, celled, holding, Releases}
use Rattle.cells.proofs.Shown.{shown_base}
use Rattle.pruning.specs.Parents.{Prunes}
use Rattle.compaction.specs.Lowering.{Steps, Moved}
use Rattle.deletion.specs.Deleting.{Removes}

module _ {base check : List ℤ} {s : ℕ} {key : List ℕ} {t : Table} (r : Removes base check s key t) where
  abbrev characters : List ℕ
  characters = reverse (map code_of key)

  last : Step t.cells s END (leaf r.whole key r.live)
  last = rw r.node_is at (leaf_step r.whole key r.live)

  -- b is the base of s.
  module _ {b : ℕ} (reads : b ≡ plus_at base s) where
    leaf_is : leaf r.whole key r.live ≡ b + END
    leaf_is = last.at ∙ ap (λ (x : ℕ). x + END) (sym (reads ∙ shown_base r.shown s (based_pos r.whole.tree s last.based)))

    pub remove_releases : Releases base check (b + END) t
    remove_releases = rw (← leaf_is) (record { shown = r.shown; far = step_far r.whole.tree last; parent = step_used r.whole.tree last })

    pub remove_prunes : {base' check' : List ℤ} → Shown base' check' (holding t (b + END) free) →
        Prunes base' check' s (length key) characters (holding t (b + END) free)
    remove_prunes shown =
        let k = leaf_step r.whole key r.live in
        let none = leaf_childless r.whole key r.live in
        rw (← leaf_is) (record {
          shown = rw (← leaf_is) at shown;
          tree = less_tree r.whole.tree characters k none;
          node_is = parent_stays r.whole.tree characters k none ∙ r.node_is;
          depth_is = codes_length document01 key;
          based = rw r.node_is at (parent_based r.whole.tree characters k none);
        })

    pub remove_steps : {base' check' : List ℤ} →
        Shown base' check' (celled t (prune document01 (update t.cells (b + END) free) characters)) →
        Steps base' check' (cut r.whole key r.live)
    remove_steps shown = record {
      shown = rw (prune_leaf r.whole key r.live, leaf_is) shown;
      whole = (cut_now r.whole key r.live document01_round_trip).sound;
    }

  pub remove_left : {n : ℕ} {base' check' : List ℤ} → Moved (compaction_step document01 (cut r.whole key r.live)) n base' check' →
      Shown base' check' (deleted document01 t key)
  unfolding deleted
  remove_left m = m.left

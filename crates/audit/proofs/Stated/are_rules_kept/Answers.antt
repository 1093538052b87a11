-- `are_rules_kept` looks at the cells twice, and at the root between. Assumes nothing.
use mathlib.Core.Path.{◌≡◌, sym, ◌∙◌}
use mathlib.Core.Bool.{true, true≢false}
use Rattle.audit.proofs.Says.{says_too, says_as, as_said, refuted}
use Rattle.audit.proofs.SoundKept.{sound_cells, sound_root, sound_ways}
use Rattle.audit.proofs.KeptSound.{kept_closed, kept_sound}
use Rattle.audit.proofs.Stated.are_rules_kept.Goals as goal
use Rattle.audit.proofs.Stated.are_rules_kept.Goals.{then-are_cells_kept, else-are_cells_kept}

pub are_ways_kept-requires : goal.are_ways_kept-requires
are_ways_kept-requires c =
    let first = c.requires.first in
    let k = c.are_cells_kept.ensures in
    let y : c.are_cells_kept.result ≡ true = elim c.if-are_cells_kept.branch [
      | then-are_cells_kept w ↦ w.if-are_cells_kept.true
      | else-are_cells_kept w ↦ sym w.value-is ∙ c.if-is_root_kept.true
    ] in record {
      closed = kept_closed first (k.kept.yes y);
      marks = k.parents y;
      notes = c.requires.notes;
    }

pub returns-then-is_root_kept : goal.returns-then-is_root_kept
returns-then-is_root_kept c = elim c.if-are_cells_kept.branch [
  | then-are_cells_kept w ↦
      let cells = c.are_cells_kept.ensures.kept.yes w.if-are_cells_kept.true in
      let root = sym w.is_root_kept.ensures ∙ sym w.value-is ∙ c.if-is_root_kept.true in
      as_said _ (says_too c.are_ways_kept.ensures (kept_sound c.requires.first cells root) (sound_ways _ _ _))
  | else-are_cells_kept w ↦ absurd (true≢false (sym c.if-is_root_kept.true ∙ w.value-is ∙ w.if-are_cells_kept.false))
]

pub returns-else-is_root_kept : goal.returns-else-is_root_kept
returns-else-is_root_kept c = c.if-is_root_kept.false ∙ elim c.if-are_cells_kept.branch [
  | then-are_cells_kept w ↦
      let no = sym w.value-is ∙ c.if-is_root_kept.false in
      refuted (λ e. (says_as w.is_root_kept.ensures).no no (sound_root _ _ _ e))
  | else-are_cells_kept w ↦ refuted (λ e. c.are_cells_kept.ensures.kept.no w.if-are_cells_kept.false (sound_cells _ _ _ e))
]

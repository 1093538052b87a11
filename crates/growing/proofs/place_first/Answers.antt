-- `place_first` seeks the placed base, and asks whether the label's cell is past the last. Assumes nothing.
use native.Mathlib.Omega.{arith}
use Rattle.cells.proofs.Placed.{searches}
use Rattle.growing.proofs.Growing.{one_code, first_small, first_past, first_placed}
use Rattle.growing.proofs.place_first.Goals as goal

pub place-q-requires : goal.place-q-requires
place-q-requires c = let (t, s) = c.requires in searches s (one_code c.label-c.ensures.small)

pub overflow_add-q : goal.overflow_add-q
overflow_add-q c =
    let (t, s) = c.requires in
    omega (arith, first_small s c.label-c.ensures c.place-q.ensures, c.label-c.ensures.small)

pub returns-then-base-q : goal.returns-then-base-q
returns-then-base-q c = λ t s. first_past s c.label-c.ensures c.place-q.ensures c.if-base-q.true

pub returns-else-base-q : goal.returns-else-base-q
returns-else-base-q c = λ t s. first_placed s c.label-c.ensures c.place-q.ensures c.if-base-q.false

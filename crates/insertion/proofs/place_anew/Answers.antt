-- `place_anew` seeks the placed base, refuses one that does not fit, and otherwise moves and grows. Assumes nothing.
use native.Mathlib.Omega.{arith}
use Rattle.std.proofs.lemmas.Result.{err_from_is_err_and}
use Rattle.cells.proofs.Placed.{searches, finds_placed}
use Rattle.insertion.proofs.PlacingAnew.{anew_codes, base_small, greatest_small, moves, past_last, all_placed, not_placed}
use Rattle.insertion.proofs.place_anew.Goals as goal

pub place-q-requires : goal.place-q-requires
place-q-requires c = let (t, a) = c.requires in searches a.extends.shown (anew_codes a)

pub overflow_add-far : goal.overflow_add-far
overflow_add-far c =
    let (t, a) = c.requires in
    let q = finds_placed a.extends.shown (anew_codes a) c.place-q.ensures in
    omega (arith, base_small a q, greatest_small a q, c.greatest.ensures)

pub returns-then-base-far : goal.returns-then-base-far
returns-then-base-far c = λ t a. past_last a (finds_placed a.extends.shown (anew_codes a) c.place-q.ensures) c.greatest.ensures (omega arith)

pub move_and_grow-requires : goal.move_and_grow-requires
move_and_grow-requires c =
    let (t, a) = c.requires in
    (t, moves a (finds_placed a.extends.shown (anew_codes a) c.place-q.ensures) c.greatest.ensures (omega arith))

pub returns-in_err-move_and_grow : goal.returns-in_err-move_and_grow
returns-in_err-move_and_grow c = λ t a.
    let q = finds_placed a.extends.shown (anew_codes a) c.place-q.ensures in
    let p = err_from_is_err_and c.from_residual.result c.from_residual.ensures.1 in
    rw (p.1, p.2) (not_placed a q c.greatest.ensures (omega arith) c.in_err-move_and_grow.ensures)

pub returns : goal.returns
returns c = λ t a.
    let q = finds_placed a.extends.shown (anew_codes a) c.place-q.ensures in
    all_placed a q c.greatest.ensures (omega arith) c.in_ok-move_and_grow.ensures

-- `lower_children` seeks the placed base, and moves the children there if it is smaller than the base held. Assumes nothing.
use mathlib.Core.Path.{◌≡◌}
use mathlib.Core.List.{List}
use Prim.Native.Nat.{ℕ}
use lib.IntN.{ℤ}
use Rattle.rules.specs.ASoundTable.{size_at}
use Rattle.rules.specs.Table.{Table, used}
use Rattle.rules.specs.Placement.{placed}
use Rattle.placing.specs.Search.{Finds}
use Rattle.cells.proofs.Placed.{searches, finds_placed}
use Rattle.compaction.specs.Lowering.{LowersChildren}
use Rattle.compaction.proofs.Compacting.{lower_codes, children_stay, relocates, children_move}
use Rattle.compaction.proofs.lower_children.Goals as goal

placed_here : {base check : List ℤ} {s : ℕ} {codes : List ℕ} {t : Table} {q : ℕ} → LowersChildren base check s codes t →
    Finds check (size_at base) codes q → q ≡ placed (used t.cells) t.size codes
placed_here a found = finds_placed a.steps.shown (lower_codes a) found

pub place-q-requires : goal.place-q-requires
place-q-requires c = let (t, a) = c.requires in searches a.steps.shown (lower_codes a)

pub returns-then-at-q : goal.returns-then-at-q
returns-then-at-q c = λ t a. children_stay a (placed_here a c.place-q.ensures) c.at.ensures.is c.if-at-q.true

pub relocate-requires : goal.relocate-requires
relocate-requires c =
    let (t, a) = c.requires in
    (t, relocates a (placed_here a c.place-q.ensures) c.at.ensures.is c.if-at-q.false)

pub returns : goal.returns
returns c = λ t a.
    let here = placed_here a c.place-q.ensures in
    children_move a here c.at.ensures.is c.if-at-q.false
    (c.relocate.ensures t (relocates a here c.at.ensures.is c.if-at-q.false))

-- `lower` takes the largest used cell and collects the codes of its parent's children. Assumes nothing.
use mathlib.Core.Path.{ap, ◌∙◌}
use native.Mathlib.Omega.{arith}
use lib.ListN.{length}
use Rattle.compaction.proofs.Compacting.{root_stays, lower_collects, lowers}
use Rattle.compaction.proofs.lower.Goals as goal

pub returns-then-top-eq1 : goal.returns-then-top-eq1
returns-then-top-eq1 c = λ t a. root_stays a (c.largest_used-top.ensures t a.shown) c.if-top-eq1.true

pub collect-codes-requires : goal.collect-codes-requires
collect-codes-requires c =
    let (t, a) = c.requires in
    (t, lower_collects a (c.largest_used-top.ensures t a.shown) c.if-top-eq1.false c.at-s.ensures.is)

pub slice_bounds-lower_children-count : goal.slice_bounds-lower_children-count
slice_bounds-lower_children-count c =
    let (t, a) = c.requires in
    let e = c.collect-codes.ensures t (lower_collects a (c.largest_used-top.ensures t a.shown) c.if-top-eq1.false c.at-s.ensures.is) in
    omega (arith, ap length (c.as_slice.ensures ∙ e))

pub slice_bounds-lower_children-start : goal.slice_bounds-lower_children-start
slice_bounds-lower_children-start c =
    let (t, a) = c.requires in
    let e = c.collect-codes.ensures t (lower_collects a (c.largest_used-top.ensures t a.shown) c.if-top-eq1.false c.at-s.ensures.is) in
    omega (arith, ap length (c.as_slice.ensures ∙ e))

pub lower_children-requires : goal.lower_children-requires
lower_children-requires c =
    let (t, a) = c.requires in
    let largest = c.largest_used-top.ensures t a.shown in
    let e = c.collect-codes.ensures t (lower_collects a largest c.if-top-eq1.false c.at-s.ensures.is) in
    (t, lowers a largest c.if-top-eq1.false c.at-s.ensures.is (c.as_slice.ensures ∙ e))

pub returns : goal.returns
returns c = λ t a.
    let largest = c.largest_used-top.ensures t a.shown in
    let e = c.collect-codes.ensures t (lower_collects a largest c.if-top-eq1.false c.at-s.ensures.is) in
    c.lower_children.ensures t (lowers a largest c.if-top-eq1.false c.at-s.ensures.is (c.as_slice.ensures ∙ e))

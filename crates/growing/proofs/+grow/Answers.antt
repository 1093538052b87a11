-- `grow` follows the course label by label: it claims the cell to which the first label leads and grows the rest from there; where
-- that does not fit, it takes the cell back. Assumes nothing.
use mathlib.Core.Path.{sym, ◌∙◌}
use native.Mathlib.Omega.{arith}
use Rattle.growing.proofs.Growing.{grow_ended, grow_retracts, placed_small, grow_past, grow_onward, grow_fitted, grow_gives_up, grow_unfitted}
use Rattle.growing.proofs.+grow.Goals as goal

pub returns-in_default : goal.returns-in_default
returns-in_default n c = λ t a. grow_ended a (c.claim_first-u.ensures t a.leads) c.in_default.ensures.cases c.put_row.ensures

-- ---- no base is placed for the label behind it

pub retract-requires : goal.retract-requires
retract-requires n c =
    let (t, a) = c.requires in
    (_, grow_retracts a (c.claim_first-u.ensures t a.leads) c.at-size.ensures.is)

pub returns-in_default-place_first : goal.returns-in_default-place_first
returns-in_default-place_first n c = λ t a.
    let k = c.claim_first-u.ensures t a.leads in
    grow_past a k c.in-Some.ensures.cases.0 c.claim_first-u.auto.base (c.in_default-place_first.ensures _ k.shown)
    c.at-size.ensures.is c.retract.ensures

-- ---- one is placed

pub put-requires : goal.put-requires
put-requires n c =
    let (t, a) = c.requires in
    let k = c.claim_first-u.ensures t a.leads in
    let found = c.in-Some-place_first.ensures _ k.shown in
    omega (arith, placed_small a k c.in-Some.ensures.cases.0 c.claim_first-u.auto.base found)

pub grow-grown-requires : goal.grow-grown-requires
grow-grown-requires n c =
    let (t, a) = c.requires in
    let k = c.claim_first-u.ensures t a.leads in
    let found = c.in-Some-place_first.ensures _ k.shown in
    let (split, shorter) = c.in-Some.ensures.cases in
    (omega (arith, shorter, c.decreases), (_, grow_onward a k split c.claim_first-u.auto.base found c.put.ensures))

-- ---- after the rest

pub retract-requires-then-is_err : goal.retract-requires-then-is_err
retract-requires-then-is_err n c =
    let (t, a) = c.requires in
    let k = c.claim_first-u.ensures t a.leads in
    let found = c.in-Some-place_first.ensures _ k.shown in (
      _,
      grow_gives_up a k c.in-Some.ensures.cases.0 c.claim_first-u.auto.base found c.put.ensures c.grow-grown.ensures
          (sym c.is_err.ensures.value ∙ c.if-is_err.true) c.at-size.ensures.is,
    )

pub returns-then-is_err : goal.returns-then-is_err
returns-then-is_err n c = λ t a.
    let k = c.claim_first-u.ensures t a.leads in
    let found = c.in-Some-place_first.ensures _ k.shown in
    grow_unfitted a k c.in-Some.ensures.cases.0 c.claim_first-u.auto.base found c.put.ensures c.grow-grown.ensures
    (sym c.is_err.ensures.value ∙ c.if-is_err.true) c.at-size.ensures.is c.retract-then-is_err.ensures

pub returns-else-is_err : goal.returns-else-is_err
returns-else-is_err n c = λ t a.
    let k = c.claim_first-u.ensures t a.leads in
    let found = c.in-Some-place_first.ensures _ k.shown in
    grow_fitted a k c.in-Some.ensures.cases.0 c.claim_first-u.auto.base found c.put.ensures c.grow-grown.ensures
    (sym c.is_err.ensures.value ∙ c.if-is_err.false)

-- `walk` walks along the text. Assumes nothing.
use Rattle.std.proofs.Common.{◌≡◌, refl, sym, ap, ◌∙◌, ℕ, ◌+◌, ◌≤◌, ◌<◌, true, List, ◌∷◌, map, length, get_or, take, drop, ◌-◌, arith, add-zero, add-one}
use Rattle.std.specs.Prelude.{ℤ}
use Rattle.std.proofs.lemmas.List.{drop_all}
use Rattle.std.proofs.Math.Seq.{drop-cons}
use Rattle.rules.specs.WhatTheIndexDoes.{code_of, document01, coded}
use Rattle.rules.specs.Finding.{next_at, walk_at}
use Rattle.rules.proofs.Texts.{part_left}
use Rattle.rules.proofs.Walks.{walk_stops, walk_goes_on}
use Rattle.finding.specs.Reaching.{Reaches, step_at, Walked}
use Rattle.finding.proofs.Options.{cell_none, cell_some}
use Rattle.finding.proofs.Stepping.{coded_step, step_inside, led_coded, coded_first, coded_on}
use Rattle.finding.proofs.walk.Invariants.{Underway}
use Rattle.finding.proofs.walk.Goals as goal

module _ {base check : List ℤ} {key : List ℕ} {s n : ℕ} (u : Underway base check key s n) where
  -- The walk is over: what was to be reached is s.
  over : n ≤ length key → (coded document01 key ≡ true → Reaches (walk_at base check 1 (map code_of key)) s n) → Walked base check key s n
  over h r = record { inside = u.inside; most = h; left = u.left; reaches = r }

  ends : n ≡ length key → Walked base check key s (length key)
  unfolding walk_at
  ends e = rw e at (over (omega arith) (λ _. rw (drop_all n key (omega arith), add-zero) at u.reaches))

  -- The character behind those met leads to t.
  module _ (h : n < length key) (to : ℕ) (is : to ≡ step_at base check s (get_or key n 0)) where
    first : drop n key ≡ get_or key n 0 ∷ drop (n + 1) key
    first = rw add-one (drop-cons key n 0 h)

    leads_to : 1 ≤ code_of (get_or key n 0) → to ≡ next_at base check s (code_of (get_or key n 0))
    leads_to c = is ∙ sym (coded_step base check s (get_or key n 0) refl c)

    stops : to ≡ 0 → Walked base check key s n
    stops z = over (omega arith) (λ k.
        let c = coded_first _ _ (rw first at (u.left ∙ k)) in
        rw (first, walk_stops base check s _ _ (leads_to c) z, add-zero) at u.reaches)

    goes_on : 1 ≤ to → Underway base check key to (n + 1)
    goes_on l =
        let c = led_coded base check s (get_or key n 0) (rw (← is) l) in
        let on = rw (first, walk_goes_on base check s _ _ (leads_to c) l) at u.reaches in
        record {
          inside = (l, rw is (step_inside base check s (get_or key n 0) (omega (arith, u.inside.1))));
          left = coded_on (get_or key n 0) (drop (n + 1) key) c ∙ ap (coded document01) (sym first) ∙ u.left;
          reaches = record { cell_is = on.cell_is; met_is = omega (arith, on.met_is) };
        }

-- The first character of the part handed on.
handed_on : (key : List ℕ) (n : ℕ) → n < length key → get_or (take (length key - n) (drop n key)) 0 0 ≡ get_or key n 0
handed_on key n h = rw (part_left key n, drop-cons key n 0 h)

pub returns-in_default : goal.returns-in_default
returns-in_default c =
    stops c.loop-met.invariant (omega arith) _ (ap (step_at _ _ _) (handed_on c.args.key.now c.loop-met.met (omega arith))) (cell_none c.in_default.ensures)

pub loop-met-preserved : goal.loop-met-preserved
loop-met-preserved c =
    let led = cell_some c.in-Some.ensures in
    goes_on c.loop-met.invariant (omega arith) _ (led.0 ∙ ap (step_at _ _ _) (handed_on c.args.key.now c.loop-met.met (omega arith))) led.1

pub returns : goal.returns
returns c = ends c.loop-met.invariant (omega arith)

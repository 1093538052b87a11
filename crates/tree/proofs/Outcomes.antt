-- What an outcome leaves in the arrays, where it is done and where it is refused. Assumes nothing.
use mathlib.Core.Path.{◌≡◌, refl, sym, ap, ◌∙◌}
use mathlib.Core.Bool.{true, false}
use mathlib.Core.List.{List}
use lib.ListN.{length}
use lib.IntN.{ℤ}
use Rattle.rules.specs.Answers.{Answer, is_done}
use Rattle.rules.specs.WhatTheIndexDoes.{document01}
use Rattle.rules.specs.Table.{Table}
use Rattle.rules.specs.Rendering.{chained, render_base, render_check}
use Rattle.rules.specs.Calls.{stored}
use Rattle.rules.specs.Promised.{Edits}
use Rattle.tree.specs.Renders.{Shows}

-- Two pairs of arrays that show one table are one.
pub shown_same : {base check base' check' : List ℤ} {t : Table} → Shows chained document01 base check t → Shows chained document01 base' check' t → length base' ≡ length base →
    (base' ≡ base) × (check' ≡ check)
shown_same {t = t} s s' len = (
  s'.base_is ∙ ap (λ n. render_base n t) len ∙ sym s.base_is,
  s'.check_is ∙ ap (λ n. render_check chained document01 n t) len ∙ sym s.check_is,
)

module _ (base check : List ℤ) where
  pub stored_done : {a : Answer} {t : Table} {base' check' : List ℤ} → is_done a ≡ true → length base' ≡ length base → Shows chained document01 base' check' t →
      Edits (stored chained document01 base check (record { answer = a; table = t })) a base' check'
  unfolding stored
  stored_done {t = t} d len s = rw d (record {
    answer = refl;
    base_is = s.base_is ∙ ap (λ n. render_base n t) len;
    check_is = s.check_is ∙ ap (λ n. render_check chained document01 n t) len;
  })

  pub stored_refused : {a : Answer} (t : Table) {base' check' : List ℤ} → is_done a ≡ false → base' ≡ base → check' ≡ check →
      Edits (stored chained document01 base check (record { answer = a; table = t })) a base' check'
  unfolding stored
  stored_refused t d b c = rw d (record { answer = refl; base_is = b; check_is = c })

-- What a course leaves: its table where each placement fits, otherwise the table it began with. Assumes nothing.
use mathlib.Core.Path.{◌≡◌, refl, sym, ap, ◌∙◌}
use mathlib.Core.Bool.{Bool, true, false}
use mathlib.Core.List.{List}
use lib.IntN.{ℤ}
use Rattle.std.specs.Prelude.{Result, Err}
use Rattle.std.specs.Result.{is_err}
use Rattle.rules.specs.declared.Refusal.{Refusal}
use Rattle.rules.specs.declared.Refusal.TheVariants.{NoRoom}
use Rattle.rules.specs.Table.{Table}
use Rattle.rules.specs.Insertion.{Course}
use Rattle.cells.specs.Edits.{Shown}
use Rattle.growing.specs.Branches.{Grown, room}

room_fits : (b : Bool) → is_err (room b) ≡ false → b ≡ true
room_fits true e = refl
room_fits false e = sym e

room_lacks : (b : Bool) → is_err (room b) ≡ true → b ≡ false
room_lacks true e = sym e
room_lacks false e = refl

module _ {course : Course} {t : Table} {base check : List ℤ} where
  module _ {r : Result (Unit {0}) Refusal} (g : Grown course t r base check) where
    pub fits_left : is_err r ≡ false → (course.fitted ≡ true) × Shown base check course.table
    fits_left e = let f = room_fits course.fitted (ap is_err (sym g.fitted) ∙ e) in (f, rw f at g.left)

    pub unfit_left : is_err r ≡ true → (course.fitted ≡ false) × Shown base check t
    unfit_left e = let f = room_lacks course.fitted (ap is_err (sym g.fitted) ∙ e) in (f, rw f at g.left)

  pub unfit_says : {x : Refusal} → Grown course t (Err x) base check → x ≡ NoRoom
  unfit_says g = let e = g.fitted ∙ ap room (unfit_left g refl).0 in cc

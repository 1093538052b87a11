-- What is answered to a course: its count where each placement fits, otherwise NO ROOM. Assumes nothing.
use mathlib.Core.Path.{◌≡◌}
use mathlib.Core.Bool.{true, false}
use mathlib.Core.List.{List}
use lib.IntN.{ℤ}
use Rattle.std.specs.Prelude.{Err}
use Rattle.rules.specs.declared.Refusal.TheVariants.{NoRoom}
use Rattle.rules.specs.Answers.{counted}
use Rattle.rules.specs.Table.{Table}
use Rattle.rules.specs.Insertion.{Course}
use Rattle.cells.specs.Edits.{Shown}
use Rattle.insertion.specs.Inserting.{Extended}

module _ {course : Course} {t : Table} {base check : List ℤ} where
  pub done : course.fitted ≡ true → Shown base check course.table → Extended course t (counted course.count) base check
  done f s = record { answer = rw f; left = rw f s }

  pub no_room : course.fitted ≡ false → Shown base check t → Extended course t (Err NoRoom) base check
  no_room f s = record { answer = rw f; left = rw f s }

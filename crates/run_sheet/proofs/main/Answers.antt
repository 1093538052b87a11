-- `main` makes a fresh table, all is ready for the first turn, and nothing is carried over. Assumes nothing.
use mathlib.Core.Path.{refl}
use native.Mathlib.Omega.{arith}
use Rattle.run_sheet.proofs.Beginning.{begins}
use Rattle.run_sheet.proofs.main.Goals as goal

pub answer_all-requires : goal.answer_all-requires
answer_all-requires c = record {
  ready = record {
    whole = begins _ _ 4096 refl refl (omega arith) (omega arith) c.fresh.ensures;
    short = omega arith;
    buffered = refl;
    room = refl;
  };
  nothing = refl;
}

-- `is_past_nought` asks every cell past the size, from the last one down. Assumes nothing.
use Rattle.std.proofs.Common.{List, ℕ, ◌≤◌, ◌<◌, length}
use Rattle.std.specs.Prelude.{ℤ}
use Rattle.audit.specs.Kept.{Nought}
use Rattle.audit.proofs.Stated.is_past_nought.Given as goal

-- Both arrays hold 0 from cell t on.
abbrev pub Past : List ℤ → List ℤ → ℕ → Type 0
Past base check t = (u : ℕ) → t ≤ u → u < length base → Nought base u × Nought check u

abbrev pub invariant-loop-t : goal.invariant-loop-t
invariant-loop-t l = Past l.self.base.now l.self.check.now l.t

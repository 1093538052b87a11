-- `is_childless` collects the codes of the children behind the end mark, and asks whether the end mark is alone. Assumes nothing.
use mathlib.Core.Path.{◌∙◌}
use Rattle.pruning.proofs.FreedCells.{looks_collects, collected_childless}
use Rattle.pruning.proofs.is_childless.Goals as goal

pub returns : goal.returns
returns c = λ t l. collected_childless _ _ (c.as_slice.ensures ∙ c.collect-codes.ensures t (looks_collects l))

-- `listed` is the document's. Assumes nothing.
use mathlib.Core.Path.{refl}
use Rattle.rules.specs.Listing.{listed}
use Rattle.listing.proofs.listed.Goals as goal

pub returns : goal.returns
unfolding listed
returns c = refl

-- `collide` collects the codes of the children behind the new one, and places them anew. Assumes nothing.
use mathlib.Core.Path.{◌∙◌}
use Rattle.insertion.proofs.Extending.{collects, anew}
use Rattle.insertion.proofs.collide.Goals as goal

pub place_anew-requires : goal.place_anew-requires
place_anew-requires c =
    let (t, e) = c.requires in
    (t, anew e c.label.ensures.is (c.as_slice.ensures ∙ c.collect-codes.ensures _ (collects e)))

pub returns : goal.returns
returns c = λ t e.
    c.place_anew.ensures t (anew e c.label.ensures.is (c.as_slice.ensures ∙ c.collect-codes.ensures _ (collects e)))

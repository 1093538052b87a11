-- `greatest` gives the greatest code. Assumes nothing.
use Rattle.std.proofs.Common.{◌≡◌, ℕ, max, List, [], ◌∷◌, sym, ◌∙◌, arith}
use Rattle.std.specs.List.{reduce, fold}
use Rattle.std.specs.Option.{unwrap_or}
use Rattle.std.proofs.lemmas.Iterator.{YieldsList-from_slice}
use Rattle.std.proofs.lemmas.Iterator.Adapters.{option_map_id}
use Rattle.std.proofs.lemmas.Iterator.Consumers.{YieldsList-from_copied, max_from_yields_List}
use Rattle.rules.specs.Placement.{greatest_of}
use Rattle.placing.proofs.greatest.Goals as goal

greatest_folds : (c : ℕ) (codes : List ℕ) → fold max c codes ≡ max c (greatest_of codes)
unfolding greatest_of
greatest_folds c [] = omega arith
greatest_folds c (d ∷ codes) = omega (arith, greatest_folds (max c d) codes)

greatest_reduced : (codes : List ℕ) (r : ℕ) → r ≡ unwrap_or (reduce max codes) 0 → r ≡ greatest_of codes
unfolding greatest_of
greatest_reduced [] r e = e
greatest_reduced (c ∷ codes) r e = e ∙ greatest_folds c codes

pub returns : goal.returns
returns c =
    let e = sym (option_map_id c.max.result) ∙ max_from_yields_List _ _ c.max.ensures.ran (YieldsList-from_copied (YieldsList-from_slice c.args.codes.now cc)) in
    greatest_reduced c.args.codes.now _ (rw (← e) c.unwrap_or.ensures)

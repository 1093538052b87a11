-- `least` gives the least code. Assumes nothing.
use Rattle.std.proofs.Common.{◌≡◌, ℕ, min, List, [], ◌∷◌, get_or, refl, sym, ap, ◌∙◌, arith, rules}
use Rattle.std.specs.List.{fold}
use Rattle.rules.specs.Placement.{least_of}
use Rattle.rules.proofs.Texts.{behind, first_and_rest}
use Rattle.placing.proofs.least.Goals as goal

least_folds : (c : ℕ) (codes : List ℕ) → fold min c codes ≡ least_of (c ∷ codes)
unfolding least_of
least_folds c [] = refl
least_folds c (d ∷ []) = refl
least_folds c (d ∷ (e ∷ codes)) = omega (arith, least_folds (min c d) (e ∷ codes))

pub returns : goal.returns
returns c =
    let codes = c.args.codes.now in
    let e : c.fold.result ≡ fold min (get_or codes 0 0) (behind codes) = search rules in
    e ∙ least_folds (get_or codes 0 0) (behind codes) ∙ ap least_of (sym (first_and_rest codes c.requires))

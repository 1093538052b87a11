-- `hop` takes what a cell holds to another: each of its calls is asked what the hop's steps have. Assumes nothing.
use Rattle.std.proofs.Common.{◌≡◌, ℕ, List, get_or, set, rules}
use lib.IntN.{ℤ}
use mir.Syntax.{w32}
use mir.Val.{SFits, to_z, of_z}
use mir.Facts.{to_z-of_z}
use Rattle.numbers.specs.Stored.{positive, plus_at}
use Rattle.rules.specs.Table.{Table}
use Rattle.cells.specs.Edits.{Shown, EveryTable, claimed, Claims}
use Rattle.moving.specs.Children.{Hops}
use Rattle.moving.proofs.OneHop.{Copied, Given, hop_claims, hop_copies, hop_hands, hop_releases, hop_is}
use Rattle.moving.proofs.hop.Goals as goal

-- What claiming leaves, with the element old copied to new.
copied : {base check base₁ check₁ : List ℤ} {old new p : ℕ} {t : Table} (h : Hops base check old new t) → p ≡ plus_at check old →
    EveryTable (Claims base check new p) (λ t. Shown base₁ check₁ (claimed t new p)) → SFits w32 (get_or base₁ old (positive 0)) →
    Shown (set base₁ new (to_z w32 (of_z w32 (get_or base₁ old (positive 0))))) check₁ (Copied h)
copied {t = t} h e f fits = rw (to_z-of_z fits) (hop_copies h e (f t (hop_claims h e)))

pub claim-requires : goal.claim-requires
claim-requires c =
    let (t, h) = c.requires in
    (t, hop_claims h c.at-s.ensures.is)

-- ---- what old holds is copied, then its children are handed over, then it is released

pub hand-requires : goal.hand-requires
hand-requires c =
    let (t, h) = c.requires in
    (Copied h, hop_hands h (copied h c.at-s.ensures.is c.claim.ensures (search rules)))

pub release-requires : goal.release-requires
release-requires c =
    let (t, h) = c.requires in
    let copied = copied h c.at-s.ensures.is c.claim.ensures (search rules) in
    (Given h, hop_releases h (c.hand.ensures (Copied h) (hop_hands h copied)))

pub returns : goal.returns
returns c t h =
    let copied = copied h c.at-s.ensures.is c.claim.ensures (search rules) in
    rw (hop_is h) (c.release.ensures (Given h) (hop_releases h (c.hand.ensures (Copied h) (hop_hands h copied))))

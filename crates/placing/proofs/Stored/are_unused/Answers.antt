-- `are_unused` says whether every q + code is unused. Assumes nothing.
use Rattle.std.proofs.Common.{◌≡◌, ℕ, ◌+◌, ◌≤◌, ◌<◌, List, [], ◌∷◌, length, get_or, zero, suc, Bool, not, refl, inl, inr, ◌∙◌, arith, rules, tests}
use Rattle.std.specs.List.{list_all}
use Rattle.std.proofs.lemmas.Iterator.{YieldsList-from_slice}
use Rattle.std.proofs.lemmas.Iterator.Adapters.{serves_from_places}
use Rattle.std.proofs.lemmas.Iterator.Search.{all_from_yields_List}
use Rattle.rules.specs.WhatTheIndexDoes.{GREATEST}
use Rattle.rules.specs.Placement.{opens}
use Rattle.tree.specs.Members.{Among}
use Rattle.placing.specs.Search.{taken_at}
use Rattle.placing.proofs.Stored.are_unused.Goals as goal

opens_all : (used : ℕ → Bool) (codes : List ℕ) (q : ℕ) → list_all (λ c. not (used (q + c))) codes ≡ opens used codes q
unfolding opens
opens_all used [] q = refl
opens_all used (c ∷ codes) q = rw (opens_all used codes q)

among_at : (codes : List ℕ) (k d : ℕ) → k < length codes → Among (get_or codes k d) codes
among_at [] k d h = absurd (omega arith)
among_at (c ∷ codes) zero d h = inl refl
among_at (c ∷ codes) (suc k) d h = inr (among_at codes k d (omega arith))

pub all-requires-clause-callable : goal.all-requires-clause-callable
all-requires-clause-callable c =
    serves_from_places (YieldsList-from_slice c.args.codes.now cc) (λ x q k. search rules) (λ x k h e.
    let near : x.now ≤ GREATEST = c.requires.small x.now (rw e (among_at c.args.codes.now k x.now h)) in search rules)

pub returns : goal.returns
returns c =
    all_from_yields_List (λ k. not (taken_at c.args.self.check.now c.args.self.last (c.args.q + k))) _ _ _ c.all.ensures.ran (YieldsList-from_slice c.args.codes.now cc)
    (λ x b q k. search (rules, tests)) ∙ opens_all _ c.args.codes.now _

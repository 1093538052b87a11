-- The search's statement on a chain that leaves a free cell out: P3's check with check[0] = -6, so that the free cell 4 is not on it.
-- The search can be asked there, and finds 5 for the code 1; trying 1, 2, 3 and upward would find 3. Assumes nothing.
use mathlib.Core.Path.{◌≡◌, refl, sym, ◌∙◌}
use mathlib.Core.Logic.{◌≢◌, ⊎_elim}
use mathlib.Core.Bool.{Bool, true, false, ◌||◌, true≢false}
use mathlib.Core.List.{List, [], ◌∷◌}
use Prim.Native.Nat.{ℕ, ◌≤◌}
use native.Mathlib.Omega.{arith}
use lib.IntN.{ℤ}
use lib.Dec.{eqb}
use borrow.Author.Tests.{ne_eqb}
use Rattle.numbers.specs.Stored.{positive, negative, minus_at}
use Rattle.numbers.proofs.Cases.{same?}
use Rattle.rules.specs.Ranges.{first_from}
use Rattle.rules.specs.Placement.{least_of, opens, placed, sought}
use Rattle.placing.specs.Search.{taken_at, Next, Chain, Searches, Finds}

abbrev check : List ℤ
check = negative 6 ∷ positive 1 ∷ positive 7 ∷ positive 1 ∷ negative 6 ∷ positive 3 ∷ negative 8 ∷ positive 3 ∷ positive 0 ∷ []

-- The header, and the one cell on the chain.
unfoldable on : ℕ → Bool
on u = eqb u 0 || eqb u 6

off : (u : ℕ) → u ≢ 0 → u ≢ 6 → on u ≡ false
unfolding on
off u a b = rw (ne_eqb u 0 a, ne_eqb u 6 b)

from_header : Next on 7 0 6
unfolding on
from_header = record { after = omega arith; within = omega arith; none = λ v l k. off v (λ o. omega arith) (λ o. omega arith); named = λ l. refl }

from_six : Next on 7 6 8
from_six = record { after = omega arith; within = omega arith; none = λ v l k. off v (λ o. omega arith) (λ o. omega arith); named = λ l. absurd (omega arith) }

link : (u : ℕ) → u ≤ 7 → on u ≡ true → Next on 7 u (minus_at check u)
link u h e = ⊎_elim
    (λ (z : u ≡ 0). rw z from_header)
    (λ d. ⊎_elim (λ (z : u ≡ 6). rw z from_six) (λ f. absurd (true≢false (sym e ∙ off u d f))) (same? u 6))
    (same? u 0)

chain : Chain on 7 check
unfolding on
chain = record { header = refl; link = link }

pub gap_searches : Searches check 7 (1 ∷ [])
gap_searches = record {
  cells = on;
  chain = chain;
  wanted = record { some = omega arith; small = λ c m. ⊎_elim (λ (e : c ≡ 1). omega arith) (λ z. absurd z) m };
  small = omega arith;
}

pub gap_finds : (q : ℕ) → Finds check 7 (1 ∷ []) q → q ≡ 5
unfolding on sought first_from least_of opens taken_at
gap_finds q f = f on chain

pub gap_placed : placed (taken_at check 7) 7 (1 ∷ []) ≡ 3
unfolding placed first_from opens taken_at
gap_placed = refl

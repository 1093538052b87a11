-- Document 01, 'Placement': the placed base, by trying 1, 2, 3 and upward, and what the inner search finds along a chain.
use Rattle.std.specs.Prelude.{ℕ, ◌+◌, min, max, Bool, true, not, ◌&&◌, ◌||◌, List, [], ◌∷◌, leb, ltb}
use Rattle.rules.specs.Ranges.{first_from}

-- The least of some codes.
unfoldable pub least_of : List ℕ → ℕ
least_of [] = 0
least_of (c ∷ []) = c
least_of (c ∷ (d ∷ cs)) = min c (least_of (d ∷ cs))

-- The greatest of some codes.
unfoldable pub greatest_of : List ℕ → ℕ
greatest_of [] = 0
greatest_of (c ∷ cs) = max c (greatest_of cs)

-- Whether every q + code is unused.
unfoldable pub opens : (ℕ → Bool) → List ℕ → ℕ → Bool
opens used [] q = true
opens used (c ∷ cs) q = not (used (q + c)) && opens used cs q

-- The placed base: the smallest q of 1 or more for which every q + code is unused. Cells past the size count as unused, so
-- that q = size is one of them.
unfoldable pub placed : (ℕ → Bool) → ℕ → List ℕ → ℕ
placed used size codes = first_from (opens used codes) size 1

-- It fits if the greatest q + code is not past the last cell.
unfoldable pub fits : ℕ → List ℕ → ℕ → Bool
fits last codes q = leb (q + greatest_of codes) last

-- What the inner search asks of a base, on a chain that may leave free cells out: its least q + code is on that chain or past the
-- size, and every q + code is unused.
abbrev pub suits : (ℕ → Bool) → (ℕ → Bool) → ℕ → List ℕ → ℕ → Bool
suits chain used size codes q = (chain (q + least_of codes) || ltb size (q + least_of codes)) && opens used codes q

-- What the inner search gives: the smallest q of 1 or more that suits.
unfoldable pub sought : (ℕ → Bool) → (ℕ → Bool) → ℕ → List ℕ → ℕ
sought chain used size codes = first_from (suits chain used size codes) size 1

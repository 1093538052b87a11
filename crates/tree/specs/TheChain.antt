-- The chain of empty cells as it stands in an array, and the list of the free cells.
use Rattle.std.specs.Prelude.{◌≡◌, Bool, false, cond, ℕ, zero, suc, ◌≤◌, List, [], ◌∷◌, ℤ, leb}
use Rattle.numbers.specs.Stored.{minus_at}
use Rattle.tree.specs.Members.{Among, Rising}

-- What the chain names after the element i, up to the first cell past the size; at most n cells.
unfoldable pub links_from : List ℤ → ℕ → ℕ → ℕ → List ℕ
links_from check size zero i = []
links_from check size (suc n) i =
    let u = minus_at check i in
    let on = links_from check size n u in
    u ∷ cond (leb u size) on []

-- The unused ones of the n cells from i on, ascending.
unfoldable pub unused_from : (ℕ → Bool) → ℕ → ℕ → List ℕ
unused_from used zero i = []
unused_from used (suc n) i = cond (used i) (unused_from used n (suc i)) (i ∷ unused_from used n (suc i))

-- The list is of every unused cell from 1 to the size, once each, ascending.
pub record Unused (used : ℕ → Bool) (size : ℕ) (cells : List ℕ) : Type 0 where
  pub each : (u : ℕ) → Among u cells → (1 ≤ u) × (u ≤ size) × (used u ≡ false)
  pub all : (u : ℕ) → 1 ≤ u → u ≤ size → used u ≡ false → Among u cells
  pub rising : Rising cells

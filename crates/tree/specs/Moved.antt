-- What is said of cells that move: where they can go, and what an insertion's count counts.
use Rattle.std.specs.Prelude.{◌≡◌, ◌≢◌, List, ◌∷◌, ℕ, ◌+◌, ◌≤◌, length}
use Rattle.rules.specs.Table.{Cells, node}
use Rattle.tree.specs.Members.{Among, Once}

-- q is a base to which the children of s, whose base is b, can move.
pub record Fit (T : Cells) (s b q : ℕ) : Type 0 where
  pub held : (T s).base ≡ b
  pub old : 1 ≤ b
  pub new : 1 ≤ q
  pub clear : (c : ℕ) → (T (b + c)).parent ≡ s → (T (q + c)).parent ≡ 0

-- Every node of T stands in R where it stood.
abbrev pub Still : Cells → Cells → Type 0
Still T R = (path : List ℕ) → 1 ≤ node T path → node R path ≡ node T path

-- The node at the end of a path has changed cell from T to R.
pub record Changed (T R : Cells) (path : List ℕ) : Type 0 where
  pub was : 1 ≤ node T path
  pub now : node R path ≢ node T path

-- Just n nodes have changed cell from T to R, all of them children of one.
pub record Moved (T R : Cells) (n : ℕ) : Type 0 where
  pub parent : List ℕ
  pub codes : List ℕ
  pub once : Once codes
  pub many : length codes ≡ n
  pub each : (c : ℕ) → Among c codes → Changed T R (c ∷ parent)
  pub all : (path : List ℕ) → Changed T R path → (c : ℕ) × Among c codes × (path ≡ c ∷ parent)

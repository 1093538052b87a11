-- The placed base for codes that include those of a node's children is one to which the children can move. Assumes nothing.
use mathlib.Core.Path.{◌≡◌, refl}
use mathlib.Core.List.{List}
use Prim.Native.Nat.{ℕ, ◌+◌, ◌≤◌}
use Rattle.rules.specs.WhatTheIndexDoes.{Profile}
use Rattle.rules.specs.Table.{Cells, used, child_codes}
use Rattle.rules.specs.Placement.{placed}
use Rattle.tree.specs.Soundness.{Step, Tree}
use Rattle.tree.specs.Moved.{Fit}
use Rattle.tree.specs.Members.{Among}
use Rattle.tree.proofs.UsedCells.{unused_parent}
use Rattle.tree.proofs.Trees.{past_unused}
use Rattle.tree.proofs.Placement.{opens_each, placed_pos, placed_opens}
use Rattle.tree.proofs.ChildCodes.{step_among}

-- The codes of the children of s are among cs.
abbrev pub Include : Profile → Cells → ℕ → List ℕ → Type 0
Include P T s cs = (c : ℕ) → Among c (child_codes T s P.greatest) → Among c cs

module _ {P : Profile} {T : Cells} {size : ℕ} (w : Tree P T size) (cs : List ℕ) where
  pub placed_clear : (c : ℕ) → Among c cs → (T (placed (used T) size cs + c)).parent ≡ 0
  placed_clear c k = unused_parent T _ (opens_each (used T) cs (placed (used T) size cs) c (placed_opens (used T) size (past_unused w) cs) k)

module _ {P : Profile} {T : Cells} {size : ℕ} (w : Tree P T size) (s : ℕ) (based : 1 ≤ (T s).base) (cs : List ℕ) (more : Include P T s cs) where
  pub child_among : (c : ℕ) → (T ((T s).base + c)).parent ≡ s → Among c cs
  child_among c e =
      let p : Step T s c ((T s).base + c) = record { based = based; at = refl; back = e } in
      more c (step_among w p)

  pub placed_fit : Fit T s (T s).base (placed (used T) size cs)
  placed_fit = record {
    held = refl;
    old = based;
    new = placed_pos (used T) size cs;
    clear = λ c e. placed_clear w cs c (child_among c e);
  }

-- The search along the chain of a table, which names every free cell: it can be made, and finds the placed base. Assumes nothing.
use mathlib.Core.Path.{◌≡◌, refl, ap, ◌∙◌, fun_ext}
use mathlib.Core.List.{List}
use Prim.Native.Nat.{ℕ}
use lib.IntN.{ℤ}
use Rattle.rules.specs.Table.{Table, used}
use Rattle.rules.specs.ASoundTable.{size_at}
use Rattle.rules.specs.Placement.{placed, sought}
use Rattle.tree.proofs.Placement.{sought_placed}
use Rattle.placing.specs.Search.{Codes, Searches, Finds}
use Rattle.cells.specs.Edits.{Shown}
use Rattle.cells.proofs.NextFree.{unused}
use Rattle.cells.proofs.Shown.{shown_size, shown_small, shown_taken, shown_chain}

module _ {base check : List ℤ} {t : Table} (s : Shown base check t) {codes : List ℕ} (w : Codes codes) where
  pub searches : Searches check (size_at base) codes
  searches = rw (shown_size s) (record { cells = unused t; chain = shown_chain s; wanted = w; small = shown_small s })

  pub finds_placed : {q : ℕ} → Finds check (size_at base) codes q → q ≡ placed (used t.cells) t.size codes
  finds_placed f =
      (rw (shown_size s) at f) (unused t) (shown_chain s)
      ∙ ap (λ g. sought (unused t) g t.size codes) (fun_ext (shown_taken s))
      ∙ sought_placed (unused t) (used t.cells) t.size (λ u l h. refl) codes w.some

-- `feeds` counts line feeds byte by byte. The loop's invariant: those counted and those behind are all of them. Assumes nothing.
use mathlib.Core.Path.{◌≡◌}
use Prim.Native.Nat.{◌+◌, ◌≤◌}
use lib.ListN.{drop}
use Rattle.sheets.specs.Counting.{feeds_in}
use Rattle.sheets.proofs.lines.feeds.Given as goal

abbrev pub invariant-loop-b : goal.invariant-loop-b
invariant-loop-b l = (l.n ≤ l.b-index) × (l.n + feeds_in (drop l.b-index l.part) ≡ feeds_in l.part)

-- Lines answered one after the other: those of two lists in turn, how many bytes of answers they give, and that a table stays
-- sound and within the arrays. Assumes nothing.
use mathlib.Core.Path.{◌≡◌, refl}
use mathlib.Core.List.{List, [], ◌∷◌, ◌++◌, append_assoc}
use mathlib.Core.Option.{Option, none, some}
use Prim.Native.Nat.{ℕ, ◌*◌, ◌≤◌}
use native.Mathlib.Omega.{arith}
use lib.ListN.{length, length-append}
use Rattle.rules.specs.WhatTheIndexDoes.{Profile, RoundTrip}
use Rattle.rules.specs.Table.{Table}
use Rattle.rules.specs.Listing.{entries}
use Rattle.rules.specs.Commands.{Command}
use Rattle.rules.specs.ARun.{parsed, answered_line, answered_lines}
use Rattle.rules.proofs.Digits.{length_answer}
use Rattle.tree.specs.Soundness.{Sound}
use Rattle.tree.proofs.AnyHistory.{answered_together, entries_agree}

module _ (P : Profile) (last : ℕ) where
  -- The second lines go on at the table that the first ones leave.
  pub answered_append : (t : Table) (ls ms : List (List ℕ)) →
      let one = answered_lines P last t ls in
      let two = answered_lines P last one.table ms in
      answered_lines P last t (ls ++ ms) ≡ record { bytes = one.bytes ++ two.bytes; table = two.table }
  unfolding answered_lines
  answered_append t [] ms = refl
  answered_append t (l ∷ ls) ms = rw (answered_append (answered_line P last t (parsed l)).table ls ms, append_assoc)

  -- 11 bytes a line.
  pub length_answers : (t : Table) (ls : List (List ℕ)) → length (answered_lines P last t ls).bytes ≡ 11 * length ls
  unfolding answered_lines
  length_answers t [] = refl
  length_answers t (l ∷ ls) =
      let o = answered_line P last t (parsed l) in
      rw (length-append, length_answer, length_answers o.table ls) (omega arith)

module _ {P : Profile} (trip : RoundTrip P) (last : ℕ) where
  -- A line leaves a sound table that the arrays hold.
  pub line_kept : {t : Table} → Sound P t → t.size ≤ last → (o : Option Command) →
      let t' = (answered_line P last t o).table in (Sound P t') × (t'.size ≤ last)
  unfolding answered_line
  line_kept w fits none = (w, fits)
  line_kept {t} w fits (some c) =
      let left = (answered_together trip last (entries P t.cells) (entries_agree trip last w fits) c).left in
      (left.sound, left.fits)

  -- So do any lines.
  pub lines_kept : {t : Table} → Sound P t → t.size ≤ last → (ls : List (List ℕ)) →
      let t' = (answered_lines P last t ls).table in (Sound P t') × (t'.size ≤ last)
  unfolding answered_lines
  lines_kept w fits [] = (w, fits)
  lines_kept {t = t} w fits (l ∷ ls) =
      let (w, fits) = line_kept w fits (parsed l) in
      lines_kept {t = (answered_line P last t (parsed l)).table} w fits ls

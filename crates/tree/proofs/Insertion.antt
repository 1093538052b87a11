-- What inserting an identifier means: it has its row, every other what it had, and the table stays sound; what the count counts,
-- and when there is room. Assumes nothing.
use mathlib.Core.Path.{◌≡◌, refl, sym, ◌∙◌}
use mathlib.Core.Bool.{true}
use mathlib.Core.List.{List, [], ◌∷◌, map, reverse}
use Prim.Native.Nat.{ℕ, ◌≤◌}
use native.Mathlib.Omega.{arith}
use lib.Dec.{leb}
use borrow.Author.Tests.{leb-true}
use Rattle.rules.specs.WhatTheIndexDoes.{END, Profile, RoundTrip, coded, is_identifier, labels, is_row}
use Rattle.rules.specs.Table.{Table, node, lookup}
use Rattle.rules.specs.Insertion.{inserted}
use Rattle.rules.proofs.Choices.{both}
use Rattle.tree.specs.Soundness.{row_at, Bare, Sound}
use Rattle.tree.specs.Moved.{Moved}
use Rattle.tree.specs.Room.{Honest}
use Rattle.tree.specs.AfterAnEdit.{Meant, Now}
use Rattle.tree.proofs.Steps.{lookup_row}
use Rattle.tree.proofs.Trees.{row_low, row_pos, bare_path}
use Rattle.tree.proofs.Branches.{Word, word_low}
use Rattle.tree.proofs.Courses.{Inserted, insert_from_lem}
use Rattle.tree.proofs.Room.{insert_honest}
use Rattle.tree.proofs.Identifiers.{path_labels, identifier_coded, identifier_short}
use Rattle.tree.proofs.OneIdentifier.{meant_now}

module _ {P : Profile} (trip : RoundTrip P) where
  word_labels : (b : ℕ) (bs : List ℕ) → coded P (b ∷ bs) ≡ true → Word P (P.code b) (labels P bs)
  unfolding coded labels
  word_labels b [] h = (trip.unmarked b (leb-true _ _ (both (leb 1 (P.code b)) _ h).0), trip.range b, refl)
  word_labels b (d ∷ bs) h =
      let (k, hs) = both (leb 1 (P.code b)) (coded P (d ∷ bs)) h in
      (trip.unmarked b (leb-true _ _ k), trip.range b, word_labels d bs hs)

  module _ (last : ℕ) {t : Table} (w : Sound P t) where
    inserted_path : (key : List ℕ) (n : ℕ) → is_identifier P key ≡ true → is_row n ≡ true → lookup P t.cells key ≡ 0 →
        Inserted P t.cells (reverse (labels P key)) n (inserted P last t key n)
    unfolding inserted labels node
    inserted_path [] n k row absent = absurd (omega (arith, identifier_short P [] k))
    inserted_path (b ∷ bs) n k row absent =
        let wd = word_labels b bs (identifier_coded P (b ∷ bs) k) in
        let some : 1 ≤ P.greatest = omega (arith, word_low P (P.code b) (labels P bs) wd, trip.range b) in
        let gone = sym (lookup_row t.cells P (b ∷ bs)) ∙ absent in
        insert_from_lem some last n row w.tree w.fruit (labels P bs) (P.code b) 1 [] wd refl w.tree.root_base gone

    -- Where a row is, the root has a child.
    row_bare : {t' : Table} (key : List ℕ) (n : ℕ) → is_row n ≡ true → Meant P t.cells (reverse (labels P key)) n t' → Bare t'.cells
    row_bare {t'} key n row m =
        let e : row_at t'.cells (END ∷ reverse (map P.code key)) ≡ n = rw (path_labels P key) at m.here in
        bare_path m.tree (reverse (map P.code key)) END (row_pos m.tree _ (rw e (row_low row)))

    module _ (key : List ℕ) (n : ℕ) (k : is_identifier P key ≡ true) (row : is_row n ≡ true) (absent : lookup P t.cells key ≡ 0) where
      -- The new identifier has its row, every other what it had.
      pub inserted_now : Now P t key n (inserted P last t key n).table
      inserted_now = let m = (inserted_path key n k row absent).meant in meant_now w key n k trip m (row_bare key n row m)

      -- The count is the number of children that changed cell.
      pub inserted_count : Moved t.cells (inserted P last t key n).table.cells (inserted P last t key n).count
      inserted_count = (inserted_path key n k row absent).count

    -- All placements fit exactly if the new size is not past the last cell.
    pub inserted_honest : (key : List ℕ) (n : ℕ) → is_identifier P key ≡ true → t.size ≤ last → Honest last (inserted P last t key n)
    unfolding inserted labels
    inserted_honest [] n k h = absurd (omega (arith, identifier_short P [] k))
    inserted_honest (b ∷ bs) n k h =
        let wd = word_labels b bs (identifier_coded P (b ∷ bs) k) in
        insert_honest last w.tree h n (labels P bs) (P.code b) 1 wd w.tree.root_base

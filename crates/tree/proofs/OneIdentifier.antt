-- What an edit of one identifier means: a table that differs at its path differs at no other identifier, and stays sound. Assumes
-- nothing.
use mathlib.Core.Path.{◌≡◌, ap, ◌∙◌}
use mathlib.Core.Logic.{⊎_elim}
use mathlib.Core.Bool.{true}
use mathlib.Core.List.{List, reverse}
use Prim.Native.Nat.{ℕ, suc, ◌≤◌}
use native.Mathlib.Omega.{arith}
use lib.ListN.{length}
use Rattle.numbers.proofs.Cases.{same_list?}
use Rattle.rules.specs.WhatTheIndexDoes.{Profile, RoundTrip, is_identifier, labels}
use Rattle.rules.specs.Table.{Table}
use Rattle.tree.specs.Soundness.{Bare, Deep, Sound}
use Rattle.tree.specs.AfterAnEdit.{Meant, Now}
use Rattle.tree.proofs.Steps.{lookup_row, lookup_same}
use Rattle.tree.proofs.Identifiers.{path_length, path_tells, identifier_coded, identifier_short}

module _ {P : Profile} {t : Table} (w : Sound P t) (key : List ℕ) (n : ℕ) {t' : Table} (k : is_identifier P key ≡ true) where
  meant_deep : Meant P t.cells (reverse (labels P key)) n t' → Deep P t'.cells
  meant_deep m path h = ⊎_elim own (λ d. w.deep path (rw (m.else path d) at h)) (same_list? path (reverse (labels P key)))
    where
      own : path ≡ reverse (labels P key) → (2 ≤ length path) × (length path ≤ suc P.limit)
      own e =
          let (low, high) = identifier_short P key k in
          let z : length path ≡ suc (length key) = ap (λ (r : List ℕ). length r) e ∙ path_length P key in
          (omega arith, omega arith)

  pub meant_now : RoundTrip P → Meant P t.cells (reverse (labels P key)) n t' → Bare t'.cells → Now P t key n t'
  meant_now trip m bare = record {
    sound = record { tree = m.tree; fruit = m.fruit; bare = bare; deep = meant_deep m };
    here = lookup_row t'.cells P key ∙ m.here;
    else = λ j d. lookup_same t.cells t'.cells P j (m.else (reverse (labels P j)) (λ e.
        d (path_tells trip j key (identifier_coded P key k) e)));
  }

-- A refused command changes nothing; and an insertion is refused with NO ROOM exactly when an identifier that is not live, with a
-- row, has a placement in its course that does not fit. Assumes nothing.
use mathlib.Core.Path.{◌≡◌, refl, ap}
use mathlib.Core.Logic.{◌↔◌}
use mathlib.Core.Bool.{Bool, true, false, true≢false}
use mathlib.Core.List.{List}
use Prim.Native.Nat.{ℕ, ◌<◌}
use native.Mathlib.Omega.{arith}
use lib.Dec.{ltb}
use borrow.Author.Tests.{ltb-false}
use Rattle.rules.specs.Answers.{Answer, number, is_done}
use Rattle.rules.specs.WhatTheIndexDoes.{Profile, is_identifier, is_row}
use Rattle.rules.specs.Table.{Table, lookup}
use Rattle.rules.specs.Insertion.{inserted}
use Rattle.rules.specs.Commands.{Command, insert, delete, find, compact, Outcome, key_allowed, number_allowed, carried_out, answered}
use Rattle.rules.proofs.Choices.{branch}
use Rattle.tree.specs.Room.{Unplaced}
use Rattle.rules.specs.declared.Refusal.TheVariants.{NoRoom}
use Rattle.std.specs.Prelude.{Err}

module _ (P : Profile) (last : ℕ) (t : Table) where
  -- ---- any refusal

  -- An outcome that is not done leaves the table as it was.
  abbrev Unchanged : Outcome → Type 0
  Unchanged o = is_done o.answer ≡ false → o.table ≡ t

  carried_same : (c : Command) → Unchanged (carried_out P last t c)
  unfolding carried_out
  carried_same (insert key n) = branch Unchanged (ltb 0 (lookup P t.cells key)) (λ _ _. refl) (λ _. branch Unchanged (inserted P last t key n).fitted
      (λ _ e. absurd (true≢false e)) (λ _ _. refl))
  carried_same (delete key) = branch Unchanged (ltb 0 (lookup P t.cells key)) (λ _ e. absurd (true≢false e)) (λ _ _. refl)
  carried_same (find key) = λ _. refl
  carried_same (compact n) = λ e. absurd (true≢false e)

  pub refused_unchanged : (whole : Bool) (c : Command) → is_done (answered P last t whole c).answer ≡ false → (answered P last t whole c).table ≡ t
  unfolding answered
  refused_unchanged whole c = branch Unchanged (key_allowed P c) (λ _. branch Unchanged (number_allowed c) (λ _. branch Unchanged whole
      (λ _. carried_same c) (λ _ _. refl)) (λ _ _. refl)) (λ _ _. refl)

  -- ---- NO ROOM

  module _ (key : List ℕ) (n : ℕ) where
    -- NO ROOM is given for the one reason only.
    abbrev Why : Outcome → Type 0
    Why o = o.answer ≡ Err NoRoom → Unplaced P last t key n

    other : {a : Answer} → number a < number (Err NoRoom) → a ≡ Err NoRoom → Unplaced P last t key n
    other h e = absurd (omega (arith, ap number e))

    why : Why (answered P last t true (insert key n))
    unfolding answered carried_out key_allowed number_allowed
    why = branch Why (is_identifier P key) (λ k. branch Why (is_row n) (λ r. branch Why (ltb 0 (lookup P t.cells key))
        (λ h. other (omega arith))
        (λ h. branch Why (inserted P last t key n).fitted (λ f. other (omega arith))
        (λ f e. record { identifier = k; row = r; absent = omega (arith, ltb-false 0 (lookup P t.cells key) h); unfit = f })))
        (λ r. other (omega arith))) (λ k. other (omega arith))

    given : Unplaced P last t key n → (answered P last t true (insert key n)).answer ≡ Err NoRoom
    unfolding answered carried_out key_allowed number_allowed
    given u = rw (u.identifier, u.row, u.absent, u.unfit)

    pub no_room_exactly : ((answered P last t true (insert key n)).answer ≡ Err NoRoom) ↔ Unplaced P last t key n
    no_room_exactly = (why, given)

    pub no_room_unchanged : (answered P last t true (insert key n)).answer ≡ Err NoRoom → (answered P last t true (insert key n)).table ≡ t
    no_room_unchanged e = refused_unchanged true (insert key n) (ap is_done e)

-- What an answer's value can be: a row, a count of children or of moves, the bytes of a listing, the lines of a run. Assumes nothing.
use mathlib.Core.Path.{◌≡◌, ap}
use mathlib.Core.Logic.{◌≢◌, ⊎_elim}
use mathlib.Core.Bool.{true, ◌&&◌, ◌||◌}
use mathlib.Core.List.{List, [], ◌∷◌}
use Prim.Native.Nat.{ℕ, zero, suc, ◌+◌, ◌*◌, ◌≤◌}
use native.Mathlib.Nat.{mul-le-mul_left, le_trans}
use native.Mathlib.Omega.{arith}
use lib.ListN.{length}
use lib.IntN.{ℤ}
use lib.Dec.{leb, ltb, eqb}
use borrow.Author.Tests.{leb-true, leb-false}
use Rattle.numbers.specs.Stored.{minus_at}
use Rattle.numbers.proofs.Cases.{some?}
use Rattle.rules.specs.Answers.{Answer, number, value, is_done, found_or_absent}
use Rattle.rules.specs.WhatTheIndexDoes.{Profile, is_identifier, is_row, labels, right_lengths, last_cell}
use Rattle.rules.specs.Finding.{row_of, leaf_at, row_found}
use Rattle.rules.specs.Table.{Cells, Table, used, next, walk, lookup, child_codes}
use Rattle.rules.specs.Insertion.{Course, collide, extend, insert_from, inserted}
use Rattle.rules.specs.Commands.{Command, insert, delete, find, compact, Outcome, key_allowed, number_allowed, carried_out, answered}
use Rattle.rules.specs.Listing.{listing}
use Rattle.rules.specs.Rendering.{Kind, read_cells, read_table}
use Rattle.rules.specs.ARun.{sheet_lines}
use Rattle.rules.specs.Calls.{Edited, Written, Ran, find_call, sound_list, stored, edit_call, list_call, sound_run, run_call}
use Rattle.rules.proofs.Choices.{branch, both}
use Rattle.rules.proofs.Ranges.{within_is}
use Rattle.tree.specs.Soundness.{Sound}
use Rattle.tree.proofs.Trees.{held_leaf, row_used}
use Rattle.tree.proofs.Branches.{grow_count}
use Rattle.tree.proofs.StepsTaken.{compacted_taken}
use Rattle.tree.proofs.ListingLength.{listing_most}
use Rattle.tree.proofs.SingleCalls.{Audited}
use Rattle.rules.specs.declared.Refusal.TheVariants.{NoSpace}
use Rattle.std.specs.Prelude.{Err}

-- ---- a row

abbrev Small : Answer → Type 0
Small a = value a ≤ 1000000

row_small : (n : ℕ) → is_row n ≡ true → n ≤ 1000000
unfolding is_row
row_small n e = (within_is 1 1000000 n e).1

found_small : (n : ℕ) → n ≤ 1000000 → Small (found_or_absent n)
found_small n h = branch Small (ltb 0 n) (λ _. h) (λ _. omega arith)

-- Find tests the row that it reads.
row_of_small : (base : List ℤ) (t : ℕ) → row_of base t ≤ 1000000
unfolding row_of
row_of_small base t = branch (λ n. n ≤ 1000000) (leb 1 t && is_row (minus_at base t))
    (λ e. row_small (minus_at base t) (both (leb 1 t) _ e).1) (λ _. omega arith)

pub find_most : (P : Profile) (base check : List ℤ) (key : List ℕ) → value (find_call P base check key) ≤ 1000000
unfolding find_call row_found
find_most P base check key = branch Small (right_lengths base check) (λ _. branch Small (is_identifier P key)
    (λ _. found_small _ (row_of_small base (leaf_at base check P key))) (λ _. omega arith)) (λ _. omega arith)

-- A sound table holds no other.
lookup_small : {P : Profile} {t : Table} → Sound P t → (key : List ℕ) → lookup P t.cells key ≤ 1000000
unfolding lookup
lookup_small {P} {t} w key = let u = walk t.cells 1 (labels P key) in ⊎_elim (λ z. omega arith)
    (λ h. row_small _ (held_leaf (w.tree.sits u (row_used w.tree u h)).held h).2) (some? (t.cells u).row)

-- ---- a count: no node has more children than there are codes

codes_most : (T : Cells) (s k : ℕ) → length (child_codes T s k) ≤ k
unfolding child_codes
codes_most T s zero = omega arith
codes_most T s (suc k) = let h = codes_most T s k in
    branch (λ (cs : List ℕ). length cs ≤ suc k) (eqb (next T s (suc k)) 0) (λ _. omega arith) (λ _. omega arith)

insert_most : (P : Profile) (last : ℕ) (T : Cells) (size s : ℕ) (cs : List ℕ) (n : ℕ) → (insert_from P last T size s cs n).count ≤ P.greatest
unfolding insert_from extend collide
insert_most P last T size s [] n = omega arith
insert_most P last T size s (c ∷ cs) n =
    let F : Course → Type 0 = λ x. x.count ≤ P.greatest in
    branch F (eqb (next T s c) 0) (λ _. branch F (used T ((T s).base + c) || ltb last ((T s).base + c))
    (λ _. codes_most T s P.greatest) (λ _. omega (arith, grow_count last T size s c cs n)))
    (λ _. insert_most P last T size (next T s c) cs n)

-- ---- an edit

abbrev SmallOut : Outcome → Type 0
SmallOut o = Small o.answer

carried_small : {P : Profile} → P.greatest ≤ 1000000 → (last : ℕ) {t : Table} → Sound P t → (c : Command) → number_allowed c ≡ true →
    SmallOut (carried_out P last t c)
unfolding carried_out number_allowed inserted
carried_small {P} g last {t} w (insert key n) e =
    branch SmallOut (ltb 0 (lookup P t.cells key)) (λ _. lookup_small w key) (λ _. branch SmallOut (inserted P last t key n).fitted
    (λ _. le_trans (insert_most P last t.cells t.size 1 (labels P key) n) g) (λ _. omega arith))
carried_small {P} g last {t} w (delete key) e =
    branch SmallOut (ltb 0 (lookup P t.cells key)) (λ _. lookup_small w key) (λ _. omega arith)
carried_small g last w (find key) e = found_small _ (lookup_small w key)
carried_small {P} g last {t} w (compact n) e = omega (arith, (compacted_taken P n t).most, leb-true n 65535 e)

module _ {K : Kind} {P : Profile} (audited : Audited K P) (base check : List ℤ) where
  answered_small : P.greatest ≤ 1000000 → (c : Command) → SmallOut (answered P (last_cell base) (read_table base check) (K.audit P base check) c)
  unfolding answered
  answered_small g c =
      branch SmallOut (key_allowed P c) (λ _. branch SmallOut (number_allowed c) (λ n. branch SmallOut (K.audit P base check)
      (λ e. carried_small g (last_cell base) (audited.renders base check e).table c n)
      (λ _. omega arith)) (λ _. omega arith)) (λ _. omega arith)

  stored_small : (o : Outcome) → SmallOut o → Small (stored K P base check o).answer
  unfolding stored
  stored_small o h = branch (λ (x : Edited). Small x.answer) (is_done o.answer) (λ _. h) (λ _. h)

  pub edit_most : P.greatest ≤ 1000000 → (command : Command) → value (edit_call K P base check command).answer ≤ 1000000
  unfolding edit_call
  edit_most g c = branch (λ (x : Edited). Small x.answer) (right_lengths base check)
      (λ _. stored_small _ (answered_small g c)) (λ _. omega arith)

  -- ---- a listing and a run

  -- A room that is always enough.
  abbrev room : ℕ
  room = (11 + 2 * P.limit) * last_cell base

  bytes_most : K.audit P base check ≡ true → length (listing P (read_cells base check)) ≤ room
  unfolding read_table
  bytes_most e = let h = audited.renders base check e in le_trans (listing_most h.table) (mul-le-mul_left (11 + 2 * P.limit) h.fits)

  -- No listing is longer, and where there is that room its answer is another than NO SPACE.
  list_either : (out : List ℕ) → let a = (list_call K P base check out).answer in (value a ≤ room) × (room ≤ length out → a ≢ (Err NoSpace))
  unfolding list_call sound_list
  list_either out =
      let F : Written → Type 0 = λ x. (value x.answer ≤ room) × (room ≤ length out → x.answer ≢ (Err NoSpace)) in
      let n = length (listing P (read_cells base check)) in
      branch F (right_lengths base check) (λ _. branch F (K.audit P base check)
      (λ e. let h = bytes_most e in branch F (leb n (length out)) (λ _. (h, λ _ z. omega (arith, ap number z)))
      (λ f. (omega arith, λ k. absurd (omega (arith, leb-false n (length out) f)))))
      (λ _. (omega arith, λ _ z. omega (arith, ap number z)))) (λ _. (omega arith, λ _ z. omega (arith, ap number z)))

  pub list_most : (out : List ℕ) → value (list_call K P base check out).answer ≤ (11 + 2 * P.limit) * last_cell base
  list_most out = (list_either out).0

  pub list_enough : (out : List ℕ) → (11 + 2 * P.limit) * last_cell base ≤ length out → (list_call K P base check out).answer ≢ (Err NoSpace)
  list_enough out = (list_either out).1

  pub run_most : (sheet out : List ℕ) → 11 * value (run_call K P base check sheet out).answer ≤ length out
  unfolding run_call sound_run
  run_most sheet out =
      let F : Ran → Type 0 = λ x. 11 * value x.answer ≤ length out in
      branch F (right_lengths base check) (λ _. branch F (K.audit P base check)
      (λ _. branch F (leb (11 * length (sheet_lines sheet)) (length out)) (leb-true _ (length out)) (λ _. omega arith))
      (λ _. omega arith)) (λ _. omega arith)

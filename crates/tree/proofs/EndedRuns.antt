-- Where a run is done, and what it leaves then: the rendering of the table at the lines' end, also where the lines are answered in
-- two parts. Assumes nothing.
use mathlib.Core.Path.{◌≡◌, refl, sym}
use mathlib.Core.Bool.{true, false, true≢false}
use mathlib.Core.List.{List, ◌++◌, append_assoc}
use Prim.Native.Nat.{ℕ, ◌+◌, ◌*◌, ◌-◌, ◌≤◌}
use native.Mathlib.Nat.{zero-add}
use native.Mathlib.Omega.{arith}
use lib.ListN.{length, take, drop, length-append, length-drop}
use lib.Seq.{sets, sets-eq, take_at, drop_at, drop-drop}
use lib.IntN.{ℤ}
use lib.Dec.{leb}
use borrow.Author.Tests.{le-leb, leb-true, eq-eqb}
use Rattle.rules.specs.Answers.{is_done}
use Rattle.rules.specs.WhatTheIndexDoes.{Profile, RoundTrip, right_lengths, last_cell}
use Rattle.rules.specs.Table.{Table}
use Rattle.rules.specs.Rendering.{Kind, render_base, render_check}
use Rattle.rules.specs.ARun.{sheet_lines, answered_lines}
use Rattle.rules.specs.Calls.{Ran, ended, sound_run, run_call}
use Rattle.rules.proofs.Choices.{branch, join}
use Rattle.rules.proofs.Lengths.{lengths_within}
use Rattle.rules.proofs.Ranges.{inside}
use Rattle.tree.specs.Soundness.{Sound}
use Rattle.tree.specs.Renders.{Renders}
use Rattle.tree.specs.Sheets.{WholeLines, InTwoParts}
use Rattle.tree.proofs.Elements.{base_length, check_length}
use Rattle.tree.proofs.SevenRules.{one_table}
use Rattle.tree.proofs.SheetLines.{lines_cut}
use Rattle.tree.proofs.Runs.{answered_append, length_answers, lines_kept}
use Rattle.tree.proofs.SingleCalls.{Audited}

-- ---- the table at the end

module _ {K : Kind} {P : Profile} {base check : List ℤ} {t : Table} (r : Renders K P base check t) where
  -- Another sound table, rendered into arrays of the same length.
  pub again_renders : {t' : Table} → Sound P t' → t'.size ≤ last_cell base →
      Renders K P (render_base (length base) t') (render_check K P (length base) t') t'
  unfolding right_lengths
  again_renders {t'} w fits =
      let n = length base in
      let b : length (render_base n t') ≡ n = base_length t' n in
      let (low, high) = lengths_within base check r.lengths in
      record {
        lengths = rw (b, check_length K P t' n) (join (eq-eqb n n refl) (inside 2 65536 n low high));
        table = w;
        fits = omega (arith, b);
        base_is = rw b;
        check_is = rw b;
      }

  -- The table at the end is sound, and is what the arrays hold then.
  pub ended_renders : RoundTrip P → (sheet out : List ℕ) →
      let x = ended K P (length base) t sheet out in
      Renders K P x.base x.check (answered_lines P (last_cell base) t (sheet_lines sheet)).table
  ended_renders trip sheet out =
      let (w, fits) = lines_kept trip (last_cell base) r.table r.fits (sheet_lines sheet) in again_renders w fits

  -- ---- where a run is done

  -- Where the arrays render a sound table and the answers have room.
  pub run_done : Audited K P → (sheet out : List ℕ) → 11 * length (sheet_lines sheet) ≤ length out →
      run_call K P base check sheet out ≡ ended K P (length base) t sheet out
  unfolding run_call sound_run
  run_done audited sheet out room =
      rw (r.lengths, audited.passes base check t r, le-leb _ (length out) room, ← one_table t r)

-- Nowhere else.
module _ (K : Kind) (P : Profile) (base check : List ℤ) (sheet out : List ℕ) where
  abbrev Needs : Ran → Type 0
  Needs x = is_done x.answer ≡ true → (K.audit P base check ≡ true) × (11 * length (sheet_lines sheet) ≤ length out)

  pub run_needs : Needs (run_call K P base check sheet out)
  unfolding run_call sound_run
  run_needs = branch Needs (right_lengths base check) (λ _. branch Needs (K.audit P base check) (λ e.
      branch Needs (leb (11 * length (sheet_lines sheet)) (length out)) (λ l _. (e, leb-true _ (length out) l)) (λ _. undone))
      (λ _. undone)) (λ _. undone)
    where
      undone : false ≡ true → (K.audit P base check ≡ true) × (11 * length (sheet_lines sheet) ≤ length out)
      undone d = absurd (true≢false (sym d))

-- ---- two parts

-- Bytes stored in two parts, the second at the front of what is left.
sets_parts : (out vs ws : List ℕ) (k : ℕ) → length vs ≡ k → k + length ws ≤ length out →
    sets out 0 (vs ++ ws) ≡ take k (sets out 0 vs) ++ sets (drop k (sets out 0 vs)) 0 ws
sets_parts out vs ws k e room =
    let all : length (vs ++ ws) ≡ k + length ws = rw (length-append, e) in
    let rest : length (drop k out) ≡ length out - k = length-drop k out in
    rw (sets-eq (vs ++ ws) out 0 (omega arith), sets-eq vs out 0 (omega arith))
    (simp (zero-add, all, e, take_at vs (drop k out) k e, drop_at vs (drop k out) k e)
    (rw (sets-eq ws (drop k out) 0 (omega arith)) (simp (zero-add, drop-drop, append_assoc))))

-- The second at the table and in the bytes that the first leaves.
pub ended_parts : (K : Kind) (P : Profile) (k : ℕ) (t : Table) (s r out : List ℕ) → WholeLines s →
    let n = length (sheet_lines s) in
    let m = length (sheet_lines r) in
    let one = ended K P k t s out in
    let two = ended K P k (answered_lines P (k - 1) t (sheet_lines s)).table r (drop (11 * n) one.out) in
    11 * (n + m) ≤ length out → InTwoParts (ended K P k t (s ++ r) out) one two n m
ended_parts K P k t s r out w room =
    let one = answered_lines P (k - 1) t (sheet_lines s) in
    let two = answered_lines P (k - 1) one.table (sheet_lines r) in
    let first = length_answers P (k - 1) t (sheet_lines s) in
    let second = length_answers P (k - 1) one.table (sheet_lines r) in
    rw (lines_cut s r w, answered_append P (k - 1) t (sheet_lines s) (sheet_lines r), length-append) (record {
      first = refl;
      second = refl;
      both = refl;
      base_is = refl;
      check_is = refl;
      out_is = sets_parts out one.bytes two.bytes (11 * length (sheet_lines s)) first (omega arith);
    })

-- Demand 2 on abstract tables: after any sequence of commands, refused and invalid ones included, the table has answered and
-- answers as the plain list that took the same commands. Assumes nothing.
use mathlib.Core.Path.{◌≡◌, refl, sym, ap, ap₂, ◌∙◌}
use mathlib.Core.Logic.{◌≢◌, ⊎_elim}
use mathlib.Core.Bool.{true}
use mathlib.Core.List.{List, [], ◌∷◌}
use Prim.Native.Nat.{ℕ, ◌≤◌}
use native.Mathlib.Omega.{arith}
use lib.IntN.{ℤ}
use lib.Dec.{ltb}
use borrow.Author.Tests.{ltb-true, ltb-false, leb-true}
use Rattle.numbers.proofs.Cases.{some?, same_list?}
use Rattle.rules.specs.Answers.{found_or_absent}
use Rattle.rules.specs.WhatTheIndexDoes.{Profile, RoundTrip, is_identifier, is_row, last_cell}
use Rattle.rules.specs.Table.{Table, empty, lookup}
use Rattle.rules.specs.ASoundTable.{sound}
use Rattle.rules.specs.Insertion.{inserted}
use Rattle.rules.specs.DeletionAndCompaction.{deleted, compacted}
use Rattle.rules.specs.Listing.{Entry, entries}
use Rattle.rules.specs.Commands.{Command, insert, delete, find, compact, key_allowed, number_allowed, carried_out, answered}
use Rattle.rules.specs.Rendering.{read_table}
use Rattle.rules.proofs.Choices.{branch₂}
use Rattle.tree.specs.Soundness.{Sound}
use Rattle.tree.specs.AfterAnEdit.{Now}
use Rattle.tree.specs.ThePlainList.{row_in, without, told, heard, replied, history, Agrees, Together, Followed}
use Rattle.tree.proofs.Insertion.{inserted_now, inserted_honest}
use Rattle.tree.proofs.Compaction.{same_lookup, compacted_same}
use Rattle.tree.proofs.Deletion.{deleted_now, deleted_less}
use Rattle.tree.proofs.SevenRules.{rules_render}
use Rattle.tree.proofs.Listing.{listed_live, live_listed}
use Rattle.tree.proofs.EmptyTable.{empty_sound, empty_lookup}
use Rattle.tree.proofs.PlainList.{put_own, put_else, without_own, without_else, row_in_lem}

module _ {P : Profile} (trip : RoundTrip P) (last : ℕ) where
  -- ---- one command

  -- The table and the list at an identifier and at every other.
  now_agrees : {t t' : Table} (es es' : List Entry) (key : List ℕ) (n : ℕ) → Agrees P last t es → Now P t key n t' → t'.size ≤ last →
      row_in es' key ≡ n → ((j : List ℕ) → j ≢ key → row_in es' j ≡ row_in es j) → Agrees P last t' es'
  now_agrees {t} {t'} es es' key n a now fits here else =
      record { sound = now.sound; fits = fits; rows = λ j. ⊎_elim (own j) (other j) (same_list? j key) }
    where
      own : (j : List ℕ) → j ≡ key → lookup P t'.cells j ≡ row_in es' j
      own j e = rw e (now.here ∙ sym here)

      other : (j : List ℕ) → j ≢ key → lookup P t'.cells j ≡ row_in es' j
      other j d = now.else j d ∙ a.rows j ∙ sym (else j d)

  module _ {t : Table} (es : List Entry) (a : Agrees P last t es) where
    inserted_agrees : (key : List ℕ) (n : ℕ) → is_identifier P key ≡ true → is_row n ≡ true → lookup P t.cells key ≡ 0 →
        (inserted P last t key n).fitted ≡ true → Agrees P last (inserted P last t key n).table (record { key = key; row = n } ∷ es)
    inserted_agrees key n k row absent fitted =
        let e : Entry = record { key = key; row = n } in
        let room = leb-true _ _ (sym (inserted_honest trip last a.sound key n k a.fits) ∙ fitted) in
        now_agrees es (e ∷ es) key n a (inserted_now trip last a.sound key n k row absent) room (put_own e es) (put_else e es)

    deleted_agrees : (key : List ℕ) → 1 ≤ lookup P t.cells key → Agrees P last (deleted P t key) (without es key)
    deleted_agrees key live =
        let fits : (deleted P t key).size ≤ last = omega (arith, a.fits, deleted_less P t key a.sound.tree.some) in
        let now = deleted_now a.sound key live trip in
        now_agrees es (without es key) key 0 a now fits (without_own es key) (without_else es key)

    compacted_agrees : (n : ℕ) → Agrees P last (compacted P n t).table es
    compacted_agrees n =
        let s = compacted_same n a.sound in
        record {
          sound = s.sound;
          fits = omega (arith, s.less, a.fits);
          rows = λ key. same_lookup s key ∙ a.rows key;
        }

    -- A command whose identifier and number are allowed.
    carried_together : (c : Command) → key_allowed P c ≡ true → number_allowed c ≡ true →
        Together P last (carried_out P last t c) (heard P (told P last t c) es c)
    unfolding key_allowed number_allowed carried_out heard told
    carried_together (insert key n) k row = rw (a.rows key) (branch₂ (Together P last) (ltb 0 (row_in es key))
        (λ h. record { answer = refl; left = a })
        (λ h. branch₂ (Together P last) (inserted P last t key n).fitted
        (λ f. record { answer = refl; left = inserted_agrees key n k row (omega (arith, a.rows key, ltb-false 0 (row_in es key) h)) f })
        (λ f. record { answer = refl; left = a })))
    carried_together (delete key) k row = rw (a.rows key) (branch₂ (Together P last) (ltb 0 (row_in es key))
        (λ h. record { answer = refl; left = deleted_agrees key (omega (arith, a.rows key, ltb-true 0 (row_in es key) h)) })
        (λ h. record { answer = refl; left = a }))
    carried_together (find key) k row = record { answer = ap found_or_absent (a.rows key); left = a }
    carried_together (compact n) k row = record { answer = refl; left = compacted_agrees n }

    pub answered_together : (c : Command) → Together P last (answered P last t true c) (replied P (told P last t c) es c)
    unfolding answered replied
    answered_together c = branch₂ (Together P last) (key_allowed P c)
        (λ k. branch₂ (Together P last) (number_allowed c) (carried_together c k) (λ _. record { answer = refl; left = a }))
        (λ _. record { answer = refl; left = a })

  -- ---- any sequence

  pub history_agrees : (cs : List Command) {t : Table} (es : List Entry) → Agrees P last t es → Followed P last (history P last t es cs)
  unfolding history
  history_agrees [] es a = record { answers = refl; left = a }
  history_agrees (c ∷ cs) {t} es a =
      let s = answered_together es a c in
      let on = history_agrees cs (replied P (told P last t c) es c).list s.left in
      record { answers = ap₂ ◌∷◌ s.answer on.answers; left = on.left }

  -- Every sound table has its plain list: its own entries.
  pub entries_agree : {t : Table} → Sound P t → t.size ≤ last → Agrees P last t (entries P t.cells)
  entries_agree {t} w fits = record {
    sound = w;
    fits = fits;
    rows = λ key. row_in_lem (λ (n : ℕ). lookup P t.cells key ≡ n) (entries P t.cells) key
        (λ e a f. ap (lookup P t.cells) (sym f) ∙ (listed_live trip w e a).1)
        (λ none. ⊎_elim (λ z. z) (λ h. absurd (none _ (live_listed trip w key h) refl)) (some? (lookup P t.cells key)));
  }

  -- From any sound table that the arrays hold, and any commands: the answers are the list's, and so is every lookup afterwards.
  pub any_history : {t : Table} → Sound P t → t.size ≤ last → (cs : List Command) → Followed P last (history P last t (entries P t.cells) cs)
  any_history {t} w fits cs = history_agrees cs (entries P t.cells) (entries_agree w fits)

  -- From nothing: the empty table and the empty list.
  pub built_history : 1 ≤ last → (cs : List Command) → Followed P last (history P last empty [] cs)
  unfolding empty row_in
  built_history room cs = history_agrees cs [] (record { sound = empty_sound P; fits = room; rows = λ key. empty_lookup P key })

-- From any two arrays that the audit passes.
pub audited_history : {P : Profile} → RoundTrip P → (base check : List ℤ) → sound P base check ≡ true → (cs : List Command) →
    Followed P (last_cell base) (history P (last_cell base) (read_table base check) (entries P (read_table base check).cells) cs)
audited_history {P} trip base check e cs = let r = rules_render P base check e in any_history trip (last_cell base) r.table r.fits cs

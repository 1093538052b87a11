-- The alphabet: its two functions undo each other. Proved once over the alphabet's size, by a test that is computed at each
-- character and each code. Assumes nothing.
use Rattle.std.specs.Prelude.{Some, None}
use mathlib.Core.Path.{◌≡◌, refl}
use mathlib.Core.Logic.{⊎_elim}
use mathlib.Core.Bool.{Bool, true, ◌&&◌, ◌||◌}
use Prim.Native.Nat.{ℕ, suc, ◌-◌, ◌≤◌}
use native.Mathlib.Omega.{arith}
use lib.Dec.{leb, ltb, eqb}
use borrow.Author.Tests.{le-ltb, ne_eqb, eqb-true, leb-true}
use Rattle.numbers.proofs.Cases.{lt_or_ge}
use Rattle.rules.specs.Ranges.{within, each_to}
use Rattle.rules.specs.WhatTheIndexDoes.{code_of, character_of, Code, Profile, document01, RoundTrip}
use Rattle.rules.proofs.Choices.{both}
use Rattle.rules.proofs.Options.{is_number}
use Rattle.rules.proofs.Ranges.{above, each_to_lem}

-- A character that has a code: the code is a label's, and leads back.
abbrev pub back_test : Profile → ℕ → Bool
back_test P b = eqb (P.code b) 0 || (eqb (P.character (P.code b)) b && (leb 2 (P.code b) && leb (P.code b) P.greatest))

-- A code of a character leads back.
abbrev pub forth_test : Profile → ℕ → Bool
forth_test P c = ltb c 2 || eqb (P.code (P.character c)) c

-- A profile's functions undo each other, if the tests pass at the n characters from 0 on and at the codes, and no other byte
-- has a code.
module _ (P : Profile) (n : ℕ) (past : (b : ℕ) → n ≤ b → P.code b ≡ 0) (back : each_to n (λ k. back_test P (k - 1)) ≡ true) (forth : each_to P.greatest (forth_test P) ≡ true) where
  coded : (b : ℕ) → 1 ≤ P.code b → (P.character (P.code b) ≡ b) × (2 ≤ P.code b) × (P.code b ≤ P.greatest)
  coded b h = ⊎_elim (λ l. facts (tested l)) (λ g. absurd (omega (arith, past b g))) (lt_or_ge b n)
    where
      tested : suc b ≤ n → back_test P b ≡ true
      tested l = rw (let e : suc b - 1 ≡ b = omega arith in e) at (each_to_lem (λ k. back_test P (k - 1)) n back (suc b) (omega arith) l)

      facts : back_test P b ≡ true → (P.character (P.code b) ≡ b) × (2 ≤ P.code b) × (P.code b ≤ P.greatest)
      facts t =
          let (x, y) = both (eqb (P.character (P.code b)) b) _ (rw (ne_eqb (P.code b) 0 (λ e. omega arith)) at t) in
          let (y₁, y₂) = both (leb 2 (P.code b)) (leb (P.code b) P.greatest) y in
          (eqb-true (P.character (P.code b)) b x, leb-true 2 (P.code b) y₁, leb-true (P.code b) P.greatest y₂)

  pub round_trip : RoundTrip P
  round_trip = record {
    back = λ b h. (coded b h).0;
    forth = λ c low high. eqb-true (P.code (P.character c)) c (rw (le-ltb c 2 low) at (each_to_lem (forth_test P) P.greatest forth c (omega arith) high));
    range = λ b. ⊎_elim (λ z. omega arith) (λ h. (coded b h).2) (lt_or_ge (P.code b) 1);
    unmarked = λ b h. (coded b h).1;
  }

-- Past the letters no byte has a code.
past_letters : (b : ℕ) → 123 ≤ b → code_of b ≡ 0
unfolding code_of
past_letters b h = simp (above 97 122 b h, above 48 57 b (omega arith), ne_eqb b 45 (λ e. omega arith))

-- Document 01's alphabet.
pub document01_round_trip : RoundTrip document01
unfolding code_of character_of within each_to
document01_round_trip = round_trip document01 123 past_letters refl refl

pub is_code : {b v : ℕ} → 1 ≤ v → code_of b ≡ v → Code b (Some v)
is_code {b = b} {v = v} h e = record { is = rw (e, is_number v h); small = omega (arith, e, document01_round_trip.range b) }

pub is_none : {b : ℕ} → code_of b ≡ 0 → Code b None
is_none e = record { is = rw e; small = tt }

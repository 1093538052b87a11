-- An answer that is packed into one number comes back whole, if its value is below 2^60; and the values of all calls are. Assumes nothing.
use mathlib.Core.Path.{◌≡◌, refl}
use mathlib.Core.Bool.{Bool, true, false}
use mathlib.Core.List.{List}
use Prim.Native.Nat.{ℕ, ◌+◌, ◌*◌, ◌/◌, ◌%◌, ◌≤◌, ◌<◌}
use native.Mathlib.Omega.{arith}
use lib.ListN.{length}
use lib.IntN.{ℤ}
use Rattle.rules.specs.Answers.{Answer, number, value}
use Rattle.rules.specs.WhatTheIndexDoes.{document01, right_lengths}
use Rattle.rules.specs.Rendering.{chained}
use Rattle.rules.specs.Commands.{Command}
use Rattle.rules.specs.Calls.{fresh_call, find_call, edit_call, audit_call, list_call, run_call}
use Rattle.rules.proofs.Lengths.{lengths_within}
use Rattle.tree.proofs.SingleCalls.{chained_audited}
use Rattle.tree.proofs.Values.{find_most, edit_most, list_most, run_most}
use Rattle.zsermulat.specs.Packed.{PLACE, packed, number_in, value_in, Packs}

-- The answers' numbers go to 9; with 4 bits they may go to 15.
pub number_most : (a : Answer) → number a ≤ 9
number_most a = grind arith

-- Unpacking gives both back.
pub unpacked : (a : Answer) → value a < PLACE → Packs a (packed a)
unfolding packed number_in value_in
unpacked a h = record { is = refl; number_is = upper (number a) (value a) h; value_is = lower (number a) (value a) h }
  where
    upper : (n v : ℕ) → v < PLACE → (n * PLACE + v) / PLACE ≡ n
    upper n v h = omega arith

    lower : (n v : ℕ) → v < PLACE → (n * PLACE + v) % PLACE ≡ v
    lower n v h = omega arith

-- ---- what a call promises, with its answer r packed

pub handed : {a r : Answer} → r ≡ a → value a < PLACE → {w : ℕ} → w ≡ packed r → Packs a w
handed {a} e h p = rw (p, e) (unpacked a h)

-- ---- the values of the calls, on arrays of any contents

module _ (base check : List ℤ) where
  pub fresh_small : value (fresh_call document01 base check).answer < PLACE
  unfolding fresh_call
  fresh_small = grind arith

  pub audit_small : value (audit_call chained document01 base check) < PLACE
  unfolding audit_call
  audit_small = grind arith

  pub find_small : (key : List ℕ) → value (find_call document01 base check key) < PLACE
  find_small key = omega (arith, find_most document01 base check key)

  pub edit_small : (command : Command) → value (edit_call chained document01 base check command).answer < PLACE
  edit_small command = omega (arith, edit_most (chained_audited document01) base check (omega arith) command)

  pub list_small : (out : List ℕ) → value (list_call chained document01 base check out).answer < PLACE
  unfolding list_call
  list_small out = go (right_lengths base check) refl
    where
      go : (b : Bool) → right_lengths base check ≡ b → value (list_call chained document01 base check out).answer < PLACE
      go true e = omega (arith, (lengths_within base check e).1, list_most (chained_audited document01) base check out)
      go false e = rw e (omega arith)

  pub run_small : (sheet out : List ℕ) → length out < 9223372036854775808 → value (run_call chained document01 base check sheet out).answer < PLACE
  run_small sheet out h = omega (arith, run_most (chained_audited document01) base check sheet out)

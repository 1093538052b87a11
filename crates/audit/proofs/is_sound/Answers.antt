-- `is_sound` asks rule 1, and then the others with marks and notes that suit the length. Assumes nothing.
use mathlib.Core.Logic.{⊎_elim}
use native.Mathlib.Omega.{arith}
use Rattle.rules.proofs.Choices.{was_yes}
use Rattle.rules.proofs.Lengths.{lengths_same, lengths_within}
use Rattle.audit.proofs.Says.{says_as, refuted}
use Rattle.audit.proofs.SoundKept.{sound_first}
use Rattle.audit.proofs.is_sound.Goals as goal

pub returns-then-not-right_lengths : goal.returns-then-not-right_lengths
returns-then-not-right_lengths c =
    refuted (λ e. (says_as c.right_lengths.ensures).no c.if-not-right_lengths.true (sound_first _ _ _ e).lengths)

pub returns-then-size-eq0 : goal.returns-then-size-eq0
returns-then-size-eq0 c = refuted (λ e. let s = (sound_first _ _ _ e).sized in
    ⊎_elim (λ z. omega (arith, z)) (λ w. omega (arith, w.1)) c.then-size-eq0.either)

pub returns-then-not-is_past_nought : goal.returns-then-not-is_past_nought
returns-then-not-is_past_nought c =
    refuted (λ e. c.is_past_nought.ensures.no c.if-not-is_past_nought.true (sound_first _ _ _ e).past)

pub invariant_of-stated : goal.invariant_of-stated
invariant_of-stated c = record {
  sized = record { is = c.at-size.ensures.is; some = omega arith; fits = omega arith };
  same_length = lengths_same _ _ (was_yes _ c.right_lengths.ensures c.if-not-right_lengths.false);
}

pub are_rules_kept_in-requires-else-size-lt-SMALL-clause-room :
    goal.are_rules_kept_in-requires-else-size-lt-SMALL-clause-room
are_rules_kept_in-requires-else-size-lt-SMALL-clause-room c =
    let w = lengths_within _ _ (was_yes _ c.right_lengths.ensures c.if-not-right_lengths.false) in
    omega (arith, w.1)

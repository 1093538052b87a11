-- A base whose greatest cell is used is shut out; and which cells count as used, where check ends before the size. Assumes nothing.
use mathlib.Core.Path.{◌≡◌, refl, sym, ap, subst, fun_ext, ◌∙◌}
use mathlib.Core.Logic.{inl, inr, ⊎_elim}
use mathlib.Core.Bool.{Bool, true, false, true≢false}
use mathlib.Core.List.{List, [], ◌∷◌}
use Prim.Native.Nat.{ℕ, ◌+◌, ◌≤◌, ◌<◌}
use native.Mathlib.Nat.{max-eq_left, max-eq_right, le_of_lt}
use native.Mathlib.Omega.{arith}
use lib.ListN.{length}
use lib.IntN.{ℤ}
use lib.Dec.{leb}
use borrow.Author.Tests.{le-leb}
use Rattle.numbers.specs.Stored.{plus_of, minus_of, plus_at, minus_at}
use Rattle.numbers.proofs.Cases.{lt_or_ge}
use Rattle.numbers.proofs.Laws.{at_past, at_inside}
use Rattle.rules.specs.WhatTheIndexDoes.{GREATEST}
use Rattle.rules.specs.Placement.{least_of, greatest_of, opens}
use Rattle.rules.proofs.Choices.{fails}
use Rattle.tree.specs.Members.{Among}
use Rattle.tree.proofs.Placement.{among_least, opens_each}
use Rattle.placing.specs.Search.{taken_at, Next, Chain, LastStored, Passes, Passed}
use Rattle.placing.proofs.TakenCells.{taken_within, taken_free, taken_past}
use Rattle.placing.proofs.Seeking.{goes_on}

greatest_among : (cs : List ℕ) → 0 < length cs → Among (greatest_of cs) cs
unfolding greatest_of
greatest_among [] h = absurd (omega arith)
greatest_among (c ∷ []) h = inl (omega arith)
greatest_among (c ∷ (d ∷ cs)) h = ⊎_elim
    (λ l. inr (subst (λ n. Among n (d ∷ cs)) (sym (max-eq_right (le_of_lt l))) (greatest_among (d ∷ cs) (omega arith))))
    (λ l. inl (max-eq_left l))
    (lt_or_ge c (greatest_of (d ∷ cs)))

-- A base whose greatest cell is used does not open.
pub shut_out : (used : ℕ → Bool) (codes : List ℕ) (q : ℕ) → 0 < length codes → used (q + greatest_of codes) ≡ true →
    opens used codes q ≡ false
shut_out used codes q h e =
    fails (opens used codes q) (λ o. true≢false (sym e ∙ opens_each used codes q (greatest_of codes) o (greatest_among codes h)))

-- The header holds a link.
pub some_stored : {m : ℕ → Bool} {size : ℕ} {check : List ℤ} → Chain m size check → 0 < length check
some_stored {check = check} ch = at_inside minus_of refl check 0 (ch.link 0 (omega arith) ch.header).after

module _ {check : List ℤ} {size last : ℕ} (l : LastStored check size last) where
  taken_alike : (u : ℕ) → taken_at check last u ≡ taken_at check size u
  unfolding taken_at
  taken_alike u = ⊎_elim
      (λ past. taken_past check last u past ∙ sym (⊎_elim
      (λ inside. taken_past check size u (⊎_elim (λ h. h) (λ h. absurd (omega (arith, l.all u h inside))) (lt_or_ge size u)))
      (λ outside. taken_free check size u (omega (arith, at_past plus_of refl check u outside)))
      (lt_or_ge u (length check))))
      (λ h. rw (le-leb u last h, le-leb u size (omega (arith, l.within))))
      (lt_or_ge last u)

  -- By the last cell that check holds the same cells are used as by the size.
  pub taken_same : taken_at check last ≡ taken_at check size
  taken_same = fun_ext taken_alike

  pub opens_same : (codes : List ℕ) (q : ℕ) → opens (taken_at check last) codes q ≡ opens (taken_at check size) codes q
  opens_same codes q = ap (λ (used : ℕ → Bool). opens used codes q) taken_same

  -- A cell past the last that holds a link is past the size.
  pub past_size : (u : ℕ) → last < u → (u ≤ size → 1 ≤ minus_at check u) → size < u
  past_size u h links = ⊎_elim (λ k. k)
      (λ k. absurd (omega (arith, l.all u k (at_inside minus_of refl check u (links k)))))
      (lt_or_ge size u)

pub least_greatest : (codes : List ℕ) → 0 < length codes → least_of codes ≤ greatest_of codes
least_greatest codes h = among_least codes (greatest_of codes) (greatest_among codes h)

-- ---- passing over

-- A link leads to a cell from which bases may be passed over.
pub passes : {m : ℕ → Bool} {check : List ℤ} {size last span v : ℕ} → Chain m size check → LastStored check size last → size < 65536 →
    span ≤ GREATEST → v ≤ size → m v ≡ true → Passes check last span (minus_at check v)
passes {m} {check} {size} {last} {span} {v} ch l small near h on =
    let n : Next m size v (minus_at check v) = ch.link v h on in
    record {
      cells = m;
      size = size;
      chain = ch;
      stored = l;
      small = small;
      near = near;
      within = n.within;
      on = n.named;
    }

module _ {check : List ℤ} {last span u : ℕ} (p : Passes check last span u) where
  pub linked : u ≤ last → u < minus_at check u
  linked h = (p.chain.link u (omega (arith, p.stored.within)) (p.on (omega (arith, p.stored.within)))).after

  pub passes_on : u ≤ last → Passes check last span (minus_at check u)
  passes_on h = passes p.chain p.stored p.small p.near (omega (arith, p.stored.within)) (p.on (omega (arith, p.stored.within)))

  -- Where the cell span cells after u is used, the search goes on along the link.
  pub passed_on : {from : ℕ} → Passed check last span from u → u + span ≤ last → leb 1 (plus_at check (u + span)) ≡ true →
      Passed check last span from (minus_at check u)
  passed_on {from} d h e = record {
    onward = omega (arith, linked (omega arith), d.onward);
    arrives = λ m size codes ch l some apart a. goes_on codes ch (d.arrives m size codes ch l some apart a) (omega (arith, l.within))
        (λ q k f. shut_out (taken_at check size) codes q some
        (ap (taken_at check size) (omega arith) ∙ taken_within check size (u + span) (omega (arith, l.within)) ∙ e));
  }

-- The next free cell after another is the first of the cells that are not used, up to the size; and there is only one such cell.
-- Assumes nothing.
use mathlib.Core.Path.{◌≡◌, sym, ◌∙◌}
use mathlib.Core.Logic.{⊎_elim}
use mathlib.Core.Bool.{Bool, true, not, ◌||◌, true≢false}
use Prim.Native.Nat.{ℕ, suc, ◌≤◌, ◌<◌}
use native.Mathlib.Nat.{le_antisymm}
use native.Mathlib.Omega.{arith}
use lib.Dec.{ltb}
use borrow.Author.Tests.{lt-ltb, le-ltb}
use Rattle.numbers.proofs.Cases.{lt_or_ge}
use Rattle.rules.specs.Table.{Table, used}
use Rattle.rules.specs.Rendering.{next_free}
use Rattle.rules.proofs.Choices.{fails, neither}
use Rattle.rules.proofs.Ranges.{first_low, first_least, first_passes}
use Rattle.placing.specs.Search.{Next}

-- The cells that are not used.
abbrev pub unused : Table → ℕ → Bool
unused t u = not (used t.cells u)

-- One of the two would lie between i and the other.
next_below : {m : ℕ → Bool} {size i v w : ℕ} → Next m size i v → Next m size i w → v ≤ w
next_below {m} {size} {i} {v} {w} a b = ⊎_elim
    (λ l. absurd (true≢false (sym (b.named (omega (arith, a.within))) ∙ a.none w b.after l)))
    (λ l. l) (lt_or_ge w v)

pub next_one : {m : ℕ → Bool} {size i v w : ℕ} → Next m size i v → Next m size i w → v ≡ w
next_one a b = le_antisymm (next_below a b) (next_below b a)

module _ (t : Table) (i : ℕ) (h : i ≤ t.size) where
  -- Where the search for it stops.
  abbrev stops : ℕ → Bool
  stops u = ltb t.size u || unused t u

  stops_past : (u : ℕ) → t.size < u → stops u ≡ true
  stops_past u l = rw (lt-ltb t.size u l)

  pub next_free_lem : Next (unused t) t.size i (next_free t i)
  unfolding next_free
  next_free_lem = record {
    after = first_low stops t.size (suc i);
    within = first_least stops t.size (suc i) (suc t.size) (omega arith) (stops_past (suc t.size) (omega arith));
    none = λ u l k. (neither (ltb t.size u) (unused t u) (fails (stops u) (λ e. omega (arith, first_least stops t.size (suc i) u l e)))).1;
    named = λ l. rw (le-ltb t.size (next_free t i) l) at (first_passes stops t.size (suc i) (stops_past _ (omega arith)));
  }

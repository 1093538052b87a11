-- The lines of a visit and of the labels tried, in the cases that the code tells apart by what it reads of two arrays that hold a sound
-- table. Assumes nothing.
use mathlib.Core.Path.{◌≡◌, refl, sym, ap, ◌∙◌}
use mathlib.Core.Logic.{◌≢◌}
use mathlib.Core.Bool.{true, cond}
use mathlib.Core.List.{List, [], ◌∷◌, ◌++◌}
use Prim.Native.Nat.{ℕ, zero, suc, ◌-◌, ◌≤◌}
use native.Mathlib.Numerals.{sub-one}
use native.Mathlib.Omega.{arith}
use lib.IntN.{ℤ}
use lib.Dec.{eqb}
use borrow.Author.Tests.{lt-ltb, eq-eqb, ne_eqb}
use Rattle.rules.specs.WhatTheIndexDoes.{GREATEST, Profile, document01}
use Rattle.rules.specs.Table.{Cells, next}
use Rattle.rules.specs.ASoundTable.{sound}
use Rattle.rules.specs.Rendering.{read_cells}
use Rattle.rules.specs.Finding.{next_at, row_of}
use Rattle.rules.specs.Listing.{Entry, entry, listed, spelt, tried, visited, line_of, lines_of}
use Rattle.rules.proofs.Digits.{lines_append, lines_one}
use Rattle.tree.proofs.SevenRules.{rules_render}
use Rattle.tree.proofs.Finding.{next_same, row_same}
use Rattle.listing.specs.Visiting.{lines_below, lines_tried, lines_under}

-- ---- the entries

module _ (P : Profile) (T : Cells) (s : ℕ) (key : List ℕ) where
  -- The first of the labels left, and the labels behind it.
  tried_first : (visit : ℕ → List ℕ → List Entry) (n : ℕ) → n ≢ 0 → let t = next T s (listed P n) in
      tried P visit T s key n ≡ cond (eqb t 0) [] (visit t (spelt P key (listed P n))) ++ tried P visit T s key (n - 1)
  unfolding tried
  tried_first visit zero some = absurd (some refl)
  tried_first visit (suc n) some = rw sub-one

  visited_leaf : (depth : ℕ) {r : ℕ} → r ≡ (T s).row → r ≢ 0 → visited P depth T s key ≡ entry key r ∷ []
  unfolding visited
  visited_leaf zero {r} is some = rw (← is, lt-ltb 0 r (omega arith))
  visited_leaf (suc depth) {r} is some = rw (← is, lt-ltb 0 r (omega arith))

  visited_none : (depth : ℕ) → (T s).row ≡ 0 → depth ≡ 0 → visited P depth T s key ≡ []
  unfolding visited
  visited_none depth z none = rw (none, z)

  visited_inner : (depth : ℕ) → (T s).row ≡ 0 → depth ≢ 0 →
      visited P depth T s key ≡ tried P (visited P (depth - 1) T) T s key P.greatest
  unfolding visited
  visited_inner zero z some = absurd (some refl)
  visited_inner (suc depth) z some = rw (z, sub-one)

-- ---- their lines

module _ (base check : List ℤ) (whole : sound document01 base check ≡ true) (s depth : ℕ) (key : List ℕ) where
  abbrev T : Cells
  T = read_cells base check

  pub tried_none : {left : ℕ} → left ≡ 0 → lines_tried base check s left depth key ≡ []
  unfolding tried lines_of
  tried_none z = rw z

  -- The lines of the labels left are those under the next label, and those of the labels behind it.
  pub tried_next : {left : ℕ} → left ≢ 0 →
      lines_tried base check s left depth key ≡ lines_under base check s (listed document01 left) depth key ++ lines_tried base check s (left - 1) depth key
  tried_next {left} some = ap lines_of (tried_first document01 T s key _ left some) ∙ lines_append _ _

  -- The label c leads to t, or nowhere.
  module _ {c t : ℕ} (leads : t ≡ next_at base check s c) (low : 1 ≤ c) where
    under_next : t ≡ next T s c
    under_next = leads ∙ next_same (rules_render document01 base check whole) s c low

    pub under_none : t ≡ 0 → lines_under base check s c depth key ≡ []
    unfolding lines_of
    under_none z = rw (← under_next, eq-eqb t 0 z)

    pub under_found : t ≢ 0 → lines_under base check s c depth key ≡ lines_below base check t depth (spelt document01 key c)
    under_found d = rw (← under_next, ne_eqb t 0 d)

  -- The next label leads nowhere.
  pub tried_skip : {left : ℕ} → left ≢ 0 → 1 ≤ listed document01 left → next_at base check s (listed document01 left) ≡ 0 →
      lines_tried base check s left depth key ≡ lines_tried base check s (left - 1) depth key
  tried_skip {left} some low z =
      tried_next some ∙ ap (λ (l : List ℕ). l ++ lines_tried base check s (left - 1) depth key) (under_none refl low z)

  -- The row that the cell holds is r, or it holds none.
  module _ {r : ℕ} (is : r ≡ row_of base s) where
    row_is : r ≡ (T s).row
    row_is = is ∙ row_same (rules_render document01 base check whole) s

    pub below_leaf : r ≢ 0 → lines_below base check s depth key ≡ line_of (entry key r)
    below_leaf d = ap lines_of (visited_leaf document01 T s key depth row_is d) ∙ lines_one (entry key r)

    pub below_none : r ≡ 0 → depth ≡ 0 → lines_below base check s depth key ≡ []
    unfolding lines_of
    below_none z none = ap lines_of (visited_none document01 T s key depth (sym row_is ∙ z) none)

    pub below_inner : r ≡ 0 → depth ≢ 0 → lines_below base check s depth key ≡ lines_tried base check s GREATEST (depth - 1) key
    below_inner z some = ap lines_of (visited_inner document01 T s key depth (sym row_is ∙ z) some)

-- What `visit` and `try_label` ask of each other and leave, case by case: a label that leads nowhere, a label found; the labels tried one
-- after another; a leaf, no depth left, an inner cell. Assumes nothing.
use mathlib.Core.Path.{◌≡◌, refl, sym, ap, ◌∙◌}
use mathlib.Core.Logic.{◌≢◌}
use mathlib.Core.List.{List, ◌++◌}
use Prim.Native.Nat.{ℕ, ◌+◌, ◌*◌, ◌-◌, ◌≤◌}
use native.Mathlib.Omega.{arith}
use lib.ListN.{length}
use lib.Seq.{sets}
use borrow.Rule.Slice.PartMut.{put_mid, mid_of}
use lib.IntN.{ℤ}
use Rattle.rules.specs.WhatTheIndexDoes.{GREATEST, document01}
use Rattle.rules.specs.Finding.{next_at, row_of}
use Rattle.rules.specs.Listing.{entry, listed, spelt, line_of}
use Rattle.rules.proofs.Digits.{length_line}
use Rattle.tree.proofs.Listing.{listed_within}
use Rattle.text.specs.Lines.{HasRoom}
use Rattle.listing.specs.Visiting.{lines_below, lines_tried, lines_under, Visits, TriesNext, Tries, Lists, ListsFrom, first_found}
use Rattle.listing.proofs.Writing.{lists_none, room_first, room_second, lists_then, room_in_part, lists_in_part}
use Rattle.listing.proofs.Beginnings.{spelt_length}
use Rattle.listing.proofs.FirstFound.{first_within, first_same}
use Rattle.listing.proofs.LinesFound.{tried_none, tried_next, under_none, under_found, below_leaf, below_none, below_inner}

-- ---- the same bytes

module _ {u v : List ℕ} (e : u ≡ v) {out : List ℕ} {at : ℕ} where
  room_as : HasRoom out at u → HasRoom out at v
  room_as f = rw e at f

  lists_as : {out' : List ℕ} {r : ℕ} → ListsFrom at v out out' r → ListsFrom at u out out' r
  lists_as w = rw e w

-- ---- the next label

module _ {base check : List ℤ} {s left depth : ℕ} {key out : List ℕ}
    (g : TriesNext base check s left depth key out) {c t : ℕ} (code_is : c ≡ listed document01 left) (next-is : t ≡ next_at base check s c) where
  abbrev under : List ℕ
  under = lines_under base check s (listed document01 left) depth key

  low : 1 ≤ c
  low = (listed_within document01 g.some g.labels code_is).0

  -- It leads nowhere.
  pub next_none : t ≡ 0 → Lists under out out 0
  next_none z = lists_as (rw code_is at (under_none base check g.whole s depth key next-is low z)) lists_none

  -- It leads to t, and is spelt after the key.
  module _ (d : t ≢ 0) where
    found : under ≡ lines_below base check t depth (spelt document01 key c)
    found =
        let at_code = ap (λ (x : ℕ). lines_under base check s x depth key) (sym code_is) in
        at_code ∙ under_found base check g.whole s depth key next-is low d

    pub next_visits : Visits base check t depth (spelt document01 key c) out
    next_visits = record { whole = g.whole; short = omega (arith, g.short, (spelt_length key c).1); fits = room_as found g.fits }

    pub next_lists : {out' : List ℕ} {r : ℕ} → Lists (lines_below base check t depth (spelt document01 key c)) out out' r → Lists under out out' r
    next_lists = lists_as found

-- ---- the labels tried

-- What holds while labels are tried, with the last `left` of them to come: they can be tried, what lists their lines from here on
-- lists all lines, and key is as it was.
pub record Trying (base check : List ℤ) (s depth : ℕ) (key₀ out₀ key out : List ℕ) (end left : ℕ) : Type 0 where
  pub asked : Tries base check s left depth key₀ out end
  pub onward : (out' : List ℕ) (r : ℕ) → ListsFrom end (lines_tried base check s left depth key₀) out out' r →
      Lists (lines_tried base check s GREATEST depth key₀) out₀ out' r
  pub kept : key ≡ key₀

module _ {base check : List ℤ} {s depth : ℕ} {key₀ out₀ : List ℕ} where
  pub trying_begins : Tries base check s GREATEST depth key₀ out₀ 0 → Trying base check s depth key₀ out₀ key₀ out₀ 0 GREATEST
  trying_begins g₀ = record { asked = g₀; onward = λ out' r w. w; kept = refl }

  -- The labels that lead nowhere are passed over.
  pub trying_first : {key out : List ℕ} {end left : ℕ} → Trying base check s depth key₀ out₀ key out end left → {f : ℕ} →
      f ≡ first_found base check s left → Trying base check s depth key₀ out₀ key out end f
  trying_first {left = left} h is =
      let same = first_same base check h.asked.whole s depth key₀ left h.asked.labels in
      rw is (record {
        asked = record {
          whole = h.asked.whole;
          labels = omega (arith, first_within base check s left, h.asked.labels);
          short = h.asked.short;
          fits = room_as same h.asked.fits;
        };
        onward = λ out' r w. h.onward out' r (lists_as same w);
        kept = h.kept;
      })

  pub trying_ends : {key out : List ℕ} {end left : ℕ} → Trying base check s depth key₀ out₀ key out end left → left ≡ 0 →
      Lists (lines_tried base check s GREATEST depth key₀) out₀ out end
  trying_ends {key} {out} {end} h z =
      h.onward out end (lists_as (tried_none base check h.asked.whole s depth key₀ z) lists_none)

  module _ {key out : List ℕ} {end left : ℕ} (h : Trying base check s depth key₀ out₀ key out end left) (some : left ≢ 0) where
    open h use {asked, onward, kept}

    abbrev next_lines : List ℕ
    next_lines = lines_under base check s (listed document01 left) depth key₀

    abbrev behind : List ℕ
    behind = lines_tried base check s (left - 1) depth key₀

    split : lines_tried base check s left depth key₀ ≡ next_lines ++ behind
    split = tried_next base check asked.whole s depth key₀ some

    fitting : HasRoom out end (next_lines ++ behind)
    fitting = room_as split asked.fits

    pub trying_next : TriesNext base check s left depth key (mid_of end (length out - end) out)
    trying_next = rw kept (record {
      whole = asked.whole;
      some = some;
      labels = asked.labels;
      short = asked.short;
      fits = room_in_part (room_first next_lines behind fitting);
    })

    -- What it writes ends within the buffer.
    pub next_within : {part : List ℕ} {r : ℕ} →
        Lists (lines_under base check s (listed document01 left) depth key) (mid_of end (length out - end) out) part r → end + r ≤ length out
    next_within w =
        let w = rw kept at w in
        omega (arith, (room_first next_lines behind fitting).enough, w.end)

    -- After it is tried.
    pub trying_again : {key' part : List ℕ} {r : ℕ} →
        Lists (lines_under base check s (listed document01 left) depth key) (mid_of end (length out - end) out) part r → key' ≡ key →
        Trying base check s depth key₀ out₀ key' (put_mid end (length out - end) out part) (end + r) (left - 1)
    trying_again w still =
        let w = lists_in_part (room_first next_lines behind fitting) (rw kept at w) in
        record {
          asked = record { whole = asked.whole; labels = omega (arith, asked.labels); short = asked.short; fits = room_second next_lines behind fitting w };
          onward = λ out'' r' x. onward out'' r' (lists_as split (lists_then next_lines behind fitting w x));
          kept = still ∙ kept;
        }

-- ---- a visit

module _ {base check : List ℤ} {s depth : ℕ} {key out : List ℕ} (g : Visits base check s depth key out)
    {row : ℕ} (is : row ≡ row_of base s) where
  abbrev lines_below_lem : List ℕ
  lines_below_lem = lines_below base check s depth key

  -- A leaf.
  module _ (some : row ≢ 0) where
    one_line : lines_below_lem ≡ line_of (entry key row)
    one_line = below_leaf base check g.whole s depth key is some

    pub leaf_room : HasRoom out 0 (line_of (entry key row))
    leaf_room = room_as one_line g.fits

    -- Its length.
    leaf_length : length (line_of (entry key row)) ≡ 11 + 2 * length key
    leaf_length = length_line (entry key row)

    pub leaf_lists : {out' : List ℕ} → out' ≡ sets out 0 (line_of (entry key row)) →
        Lists lines_below_lem out out' (11 + 2 * length key)
    leaf_lists w = lists_as one_line (record { end = omega (arith, leaf_length); out_is = w })

  -- No depth is left.
  pub visits_none : row ≡ 0 → depth ≡ 0 → Lists lines_below_lem out out 0
  visits_none z none = lists_as (below_none base check g.whole s depth key is z none) lists_none

  -- An inner cell.
  module _ (z : row ≡ 0) (deep : depth ≢ 0) where
    abbrev lines_tried_lem : List ℕ
    lines_tried_lem = lines_tried base check s GREATEST (depth - 1) key

    all_tried : lines_below_lem ≡ lines_tried_lem
    all_tried = below_inner base check g.whole s depth key is z deep

    pub inner_tries : Tries base check s GREATEST (depth - 1) key out 0
    inner_tries = record {
      whole = g.whole;
      labels = omega arith;
      short = omega (arith, g.short);
      fits = room_as all_tried g.fits;
    }

    pub inner_lists : {out' : List ℕ} {r : ℕ} → Lists lines_tried_lem out out' r → Lists lines_below_lem out out' r
    inner_lists = lists_as all_tried

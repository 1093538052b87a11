-- Where a part is cut, and bytes that are carried over. Assumes nothing.
use mathlib.Core.Path.{◌≡◌, refl}
use mathlib.Core.Logic.{◌≢◌, inl, inr}
use mathlib.Core.List.{List}
use Prim.Native.Nat.{ℕ, ◌+◌, ◌-◌, ◌<◌, min}
use native.Mathlib.Omega.{arith}
use lib.ListN.{length, get_or, take, drop, length-take, length-drop}
use lib.Seq.{length-take-le, get_or-take, get_or-drop, ext_get_or}
use Rattle.std.specs.Prelude.{Option, Some, None, MatchOption}
use Rattle.rules.specs.Listing.{LF}
use Rattle.tree.specs.Sheets.{TOO_LONG}
use Rattle.parts.specs.Parts.{Cut, Carries, Carried}

-- ---- the cut

-- Which is the last of a part's line feeds, if there is one.
abbrev pub LastFeed : List ℕ → Option ℕ → Type 0
LastFeed part r = MatchOption r
    ((k : ℕ) → k < length part → get_or part k 0 ≢ LF)
    (λ i. (i < length part) × (get_or part i 0 ≡ LF) × ((k : ℕ) → i < k → k < length part → get_or part k 0 ≢ LF))

pub cut_there : (part : List ℕ) (r : Option ℕ) (n : ℕ) → LastFeed part r → MatchOption r (n ≡ 0) (λ i. n ≡ i + 1) → Cut part n
cut_there part None n h e = rw e (record { within = omega arith; finished = inl refl; unfinished = h })
cut_there part (Some i) n h e =
    let long : length (take (i + 1) part) ≡ i + 1 = length-take-le (i + 1) part (omega (arith, h.0)) in
    let last : i + 1 - 1 ≡ i = omega arith in
    rw e (record {
      within = omega (arith, h.0);
      finished = inr (rw (long, last, get_or-take (i + 1) part i 0 (omega arith)) h.1);
      unfinished = λ k l. rw (get_or-drop (i + 1) part k 0) (h.2 (i + 1 + k) (omega arith) (omega (arith, length-drop (i + 1) part)));
    })

-- ---- what is carried over

-- So many bytes from `from` on are at the front.
pub carried : (buffer now : List ℕ) (from : ℕ) {to n : ℕ} → Carries buffer from to → n ≡ min (to - from) TOO_LONG → length now ≡ length buffer →
    ((k : ℕ) → k < n → get_or now k 0 ≡ get_or buffer (from + k) 0) → Carried buffer from to n now
carried buffer now from {to} {n} asked is same moved =
    let whole : List ℕ = take TOO_LONG (take (to - from) (drop from buffer)) in
    let long : length (take n now) ≡ n = length-take-le n now (omega (arith, asked.within, asked.order)) in
    let long' : length whole ≡ n = simp (length-take, length-drop) (omega (arith, asked.within, asked.order)) in
    record {
      count_is = is;
      front = ext_get_or 0 (take n now) whole (omega arith) (λ k l.
          let s : k < n = omega arith in
          rw (get_or-take n now k 0 s, get_or-take TOO_LONG (take (to - from) (drop from buffer)) k 0 (omega arith), get_or-take (to - from) (drop from buffer) k 0 (omega arith), get_or-drop from buffer k 0) (moved k (omega arith)));
    }

-- A sheet's lines: the first one, and those of a sheet that is cut after a line feed. Assumes nothing.
use mathlib.Core.Path.{◌≡◌, refl, sym, ap, ◌∙◌}
use mathlib.Core.Logic.{◌≢◌, ⊎_elim}
use mathlib.Core.Bool.{true, true≢false}
use mathlib.Core.List.{List, [], ◌∷◌, ◌++◌}
use Prim.Native.Nat.{ℕ, zero, suc, ◌-◌, ◌≤◌, ◌<◌}
use native.Mathlib.Nat.{eq-or-lt_of_le}
use native.Mathlib.Numerals.{sub-one}
use native.Mathlib.Omega.{arith}
use lib.ListN.{length, get_or, take, drop, take-append-drop, drop_of_length-le, length-take}
use lib.Seq.{drop-cons, take_all, get_or-take}
use lib.Dec.{ltb, eqb}
use borrow.Author.Tests.{eq-eqb, ne_eqb}
use Rattle.rules.specs.Listing.{LF}
use Rattle.rules.specs.Ranges.{within}
use Rattle.rules.specs.ARun.{joined, sheet_lines, nibble, digits}
use Rattle.rules.proofs.Choices.{branch, branch₂, both}
use Rattle.tree.specs.Sheets.{Unbroken, FirstLine, WholeLines}

-- ---- a byte in front

pub lines_blank : (b : ℕ) (bs : List ℕ) → b ≡ LF → sheet_lines (b ∷ bs) ≡ [] ∷ sheet_lines bs
unfolding sheet_lines
lines_blank b bs e = rw (eq-eqb b LF e)

pub lines_joined : (b : ℕ) (bs : List ℕ) → b ≢ LF → sheet_lines (b ∷ bs) ≡ joined b (sheet_lines bs)
unfolding sheet_lines
lines_joined b bs d = rw (ne_eqb b LF d)

pub unbroken_tail : (b : ℕ) (l : List ℕ) → Unbroken (b ∷ l) → Unbroken l
unbroken_tail b l u k h = u (suc k) (omega arith)

-- The first n bytes.
pub unbroken_take : (n : ℕ) (p : List ℕ) → Unbroken p → Unbroken (take n p)
unbroken_take n p u k l =
    let s : (k < n) × (k < length p) = (omega (arith, length-take n p), omega (arith, length-take n p)) in
    rw (get_or-take n p k 0 s.0) (u k s.1)

-- A line feed is no digit.
pub digits_unbroken : (l : List ℕ) → digits l ≡ true → Unbroken l
unfolding digits nibble within
digits_unbroken [] d k h = absurd (omega arith)
digits_unbroken (b ∷ l) d zero h = λ (e : b ≡ LF). true≢false (sym (rw e at (both (ltb (nibble b) 16) (digits l) d).0))
digits_unbroken (b ∷ l) d (suc k) h = digits_unbroken l (both (ltb (nibble b) 16) (digits l) d).1 k (omega arith)

-- ---- the first line

-- It ends at a line feed.
pub lines_feed : (l rest : List ℕ) → Unbroken l → sheet_lines (l ++ (LF ∷ rest)) ≡ l ∷ sheet_lines rest
unfolding joined
lines_feed [] rest u = lines_blank LF rest refl
lines_feed (b ∷ l) rest u = lines_joined b (l ++ (LF ∷ rest)) (u 0 (omega arith)) ∙ ap (joined b) (lines_feed l rest (unbroken_tail b l u))

-- It ends at the sheet's end.
pub lines_last : (l : List ℕ) → 1 ≤ length l → Unbroken l → sheet_lines l ≡ l ∷ []
unfolding joined sheet_lines
lines_last [] h u = absurd (omega arith)
lines_last (b ∷ []) h u = lines_joined b [] (u 0 (omega arith))
lines_last (b ∷ c ∷ l) h u =
    lines_joined b (c ∷ l) (u 0 (omega arith)) ∙ ap (joined b) (lines_last (c ∷ l) (omega arith) (unbroken_tail b (c ∷ l) u))

-- Behind the first line's end, if there is more, one byte is passed over.
pub first_line : {rest : List ℕ} {n : ℕ} → 1 ≤ length rest → FirstLine rest n → sheet_lines rest ≡ take n rest ∷ sheet_lines (drop (suc n) rest)
unfolding sheet_lines
first_line {rest} {n} some f = ⊎_elim ends feeds (eq-or-lt_of_le f.within)
  where
    ends : n ≡ length rest → sheet_lines rest ≡ take n rest ∷ sheet_lines (drop (suc n) rest)
    ends e =
        let all : take n rest ≡ rest = take_all n rest (omega arith) in
        let none : drop (suc n) rest ≡ [] = drop_of_length-le rest {i = suc n} (omega arith) in
        rw (all, none) (lines_last rest some (rw all at f.unbroken))

    feeds : n < length rest → sheet_lines rest ≡ take n rest ∷ sheet_lines (drop (suc n) rest)
    feeds h =
        let split : rest ≡ take n rest ++ (LF ∷ drop (suc n) rest) =
        sym (take-append-drop n rest) ∙ ap (λ (r : List ℕ). take n rest ++ r) (drop-cons rest n 0 h ∙ ap (λ (b : ℕ). b ∷ drop (suc n) rest) (f.ended h)) in
        ap sheet_lines split ∙ lines_feed (take n rest) (drop (suc n) rest) f.unbroken

-- ---- how many

joined_length : (b : ℕ) (ls : List (List ℕ)) → (1 ≤ length (joined b ls)) × (length (joined b ls) ≤ suc (length ls))
unfolding joined
joined_length b [] = (omega arith, omega arith)
joined_length b (l ∷ ls) = (omega arith, omega arith)

-- At most one for each byte.
pub lines_few : (s : List ℕ) → length (sheet_lines s) ≤ length s
unfolding sheet_lines
lines_few [] = omega arith
lines_few (b ∷ bs) = branch (λ (ls : List (List ℕ)). length ls ≤ suc (length bs)) (eqb b LF)
    (λ _. omega (arith, lines_few bs)) (λ _. omega (arith, lines_few bs, (joined_length b (sheet_lines bs)).1))

pub lines_some : (s : List ℕ) → 1 ≤ length s → 1 ≤ length (sheet_lines s)
unfolding sheet_lines
lines_some [] h = absurd (omega arith)
lines_some (b ∷ bs) h = branch (λ (ls : List (List ℕ)). 1 ≤ length ls) (eqb b LF) (λ _. omega arith) (λ _. (joined_length b (sheet_lines bs)).0)

-- ---- a cut

joined_append : (b : ℕ) (ls ms : List (List ℕ)) → 1 ≤ length ls → joined b (ls ++ ms) ≡ joined b ls ++ ms
unfolding joined
joined_append b [] ms h = absurd (omega arith)
joined_append b (l ∷ ls) ms h = refl

-- A byte in front of both parts.
cut_more : (b : ℕ) (s r : List ℕ) → 1 ≤ length s → sheet_lines (s ++ r) ≡ sheet_lines s ++ sheet_lines r →
    sheet_lines ((b ∷ s) ++ r) ≡ sheet_lines (b ∷ s) ++ sheet_lines r
unfolding sheet_lines
cut_more b s r h e = rw e (branch₂ (λ (ls ms : List (List ℕ)). ls ≡ ms ++ sheet_lines r) (eqb b LF)
    (λ _. refl) (λ _. joined_append b (sheet_lines s) (sheet_lines r) (lines_some s h)))

cut_fed : (s r : List ℕ) → get_or s (length s - 1) 0 ≡ LF → sheet_lines (s ++ r) ≡ sheet_lines s ++ sheet_lines r
unfolding sheet_lines
cut_fed [] r e = absurd (omega arith)
cut_fed (b ∷ []) r e = rw (eq-eqb b LF e)
cut_fed (b ∷ c ∷ bs) r e = cut_more b (c ∷ bs) r (omega arith) (cut_fed (c ∷ bs) r (simp sub-one (simp sub-one at e)))

-- A sheet cut after a line feed has the lines of the one part, and behind them those of the other.
pub lines_cut : (s r : List ℕ) → WholeLines s → sheet_lines (s ++ r) ≡ sheet_lines s ++ sheet_lines r
unfolding sheet_lines
lines_cut s r w = ⊎_elim (λ (e : s ≡ []). rw e) (cut_fed s r) w

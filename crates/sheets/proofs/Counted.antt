-- A sheet has a line for each line feed, and one more where the last has none. Assumes nothing.
use mathlib.Core.Path.{◌≡◌, refl, ap, ◌∙◌}
use mathlib.Core.Logic.{◌≢◌, ⊎_elim}
use mathlib.Core.Bool.{Bool, true, false, cond, not}
use mathlib.Core.List.{List, [], ◌∷◌, ◌++◌}
use Prim.Native.Nat.{ℕ, suc, ◌+◌, ◌-◌, ◌≤◌, ◌<◌, min}
use native.Mathlib.Numerals.{add-one}
use native.Mathlib.Omega.{arith}
use lib.ListN.{length, get_or, drop, drop_of_length-le}
use lib.Seq.{drop-cons, drop-length}
use lib.Dec.{eqb}
use borrow.Author.Tests.{eq-eqb, ne_eqb, lt-ltb}
use Rattle.std.specs.Int.{from_bool}
use Rattle.numbers.proofs.Cases.{lt_or_ge}
use Rattle.rules.specs.Listing.{LF}
use Rattle.rules.specs.ARun.{joined, sheet_lines}
use Rattle.rules.proofs.Choices.{branch, branch₂}
use Rattle.tree.proofs.SheetLines.{lines_some}
use Rattle.sheets.specs.Counting.{feeds_in, is_unfinished}

-- ---- line feeds

pub feeds_append : (xs ys : List ℕ) → feeds_in (xs ++ ys) ≡ feeds_in xs + feeds_in ys
unfolding feeds_in
feeds_append [] ys = omega arith
feeds_append (b ∷ xs) ys = branch₂ (λ n m. n ≡ m + feeds_in ys) (eqb b LF) (λ _. omega (arith, feeds_append xs ys)) (λ _. feeds_append xs ys)

pub feeds_few : (s : List ℕ) → feeds_in s ≤ length s
unfolding feeds_in
feeds_few [] = omega arith
feeds_few (b ∷ bs) = branch (λ n. n ≤ suc (length bs)) (eqb b LF) (λ _. omega (arith, feeds_few bs)) (λ _. omega (arith, feeds_few bs))

-- The next bytes, and those behind.
pub counted_on : (s block rest : List ℕ) → s ≡ block ++ rest → feeds_in s ≡ feeds_in block + feeds_in rest
counted_on s block rest e = ap feeds_in e ∙ feeds_append block rest

module _ (part : List ℕ) (i : ℕ) (h : i < length part) where
  pub feed_here : get_or part i 0 ≡ LF → feeds_in (drop i part) ≡ 1 + feeds_in (drop (i + 1) part)
  unfolding feeds_in
  feed_here e = rw (drop-cons part i 0 h, eq-eqb (get_or part i 0) LF e, add-one) (omega arith)

  pub none_here : get_or part i 0 ≢ LF → feeds_in (drop i part) ≡ feeds_in (drop (i + 1) part)
  unfolding feeds_in
  none_here d = rw (drop-cons part i 0 h, ne_eqb (get_or part i 0) LF d, add-one)

pub none_behind : (part : List ℕ) (i : ℕ) → length part ≤ i → feeds_in (drop i part) ≡ 0
unfolding feeds_in
none_behind part i h = rw (drop_of_length-le part {i = i} h)

-- ---- lines

joined_same : (b : ℕ) (ls : List (List ℕ)) → 1 ≤ length ls → length (joined b ls) ≡ length ls
unfolding joined
joined_same b [] h = absurd (omega arith)
joined_same b (l ∷ ls) h = refl

-- The last byte is that of what follows a first byte, if anything does.
last_same : (b c : ℕ) (bs : List ℕ) → is_unfinished (b ∷ c ∷ bs) ≡ is_unfinished (c ∷ bs)
unfolding is_unfinished
last_same b c bs =
    let n : length (b ∷ c ∷ bs) - 1 ≡ suc (length bs) = omega arith in
    let m : length (c ∷ bs) - 1 ≡ length bs = omega arith in
    rw (n, m, lt-ltb 0 (length (b ∷ c ∷ bs)) (omega arith), lt-ltb 0 (length (c ∷ bs)) (omega arith))

lines_more : (b : ℕ) (s : List ℕ) (n : ℕ) → 1 ≤ length s → length (sheet_lines s) ≡ feeds_in s + n → length (sheet_lines (b ∷ s)) ≡ feeds_in (b ∷ s) + n
unfolding sheet_lines feeds_in
lines_more b s n h e = branch₂ (λ (ls : List (List ℕ)) (m : ℕ). length ls ≡ m + n) (eqb b LF)
    (λ _. omega arith) (λ _. joined_same b (sheet_lines s) (lines_some s h) ∙ e)

lines_one : (b : ℕ) → length (sheet_lines (b ∷ [])) ≡ feeds_in (b ∷ []) + from_bool (is_unfinished (b ∷ []))
unfolding sheet_lines feeds_in is_unfinished joined
lines_one b = test (eqb b LF)
  where
    test : (t : Bool) → length (cond t ([] ∷ []) ((b ∷ []) ∷ [])) ≡ cond t 1 0 + from_bool (not t)
    test true = refl
    test false = refl

pub lines_counted : (s : List ℕ) → length (sheet_lines s) ≡ feeds_in s + from_bool (is_unfinished s)
unfolding sheet_lines feeds_in is_unfinished
lines_counted [] = refl
lines_counted (b ∷ []) = lines_one b
lines_counted (b ∷ c ∷ bs) = rw (last_same b c bs) (lines_more b (c ∷ bs) _ (omega arith) (lines_counted (c ∷ bs)))

-- The feeds that are counted, where nothing is left, and one more.
pub all_counted : (s rest : List ℕ) (n : ℕ) → n + feeds_in rest ≡ feeds_in s → length rest ≡ 0 → n + from_bool (is_unfinished s) ≡ length (sheet_lines s)
all_counted s rest n e z = omega (arith, lines_counted s, feeds_few rest)

-- ---- from line to line

-- What is behind a line's end is what is behind its line feed, which is not past the end of all.
pub next_line : (rest : List ℕ) (end : ℕ) → drop (min (length rest) (end + 1)) rest ≡ drop (suc end) rest
next_line rest end = ⊎_elim
    (λ (h : end < length rest). let m : min (length rest) (end + 1) ≡ suc end = omega arith in rw m)
    (λ (h : length rest ≤ end). let m : min (length rest) (end + 1) ≡ length rest = omega arith in rw (m, drop-length, drop_of_length-le rest {i = suc end} (omega arith)))
    (lt_or_ge end (length rest))

-- Document 01, 'A run': a sheet's lines, each one's command or LINE, and the answers in turn.
use Rattle.std.specs.Prelude.{ℕ, zero, suc, ◌+◌, ◌*◌, ◌-◌, Bool, true, cond, ◌&&◌, List, [], ◌∷◌, ◌++◌, length, take, drop, ltb, eqb, Err}
use Rattle.std.proofs.Math.Option.{Option, none, some}
use Rattle.rules.specs.Ranges.{within}
use Rattle.rules.specs.Answers.{Answer, number, value}
use Rattle.rules.specs.WhatTheIndexDoes.{Profile}
use Rattle.rules.specs.Table.{Table}
use Rattle.rules.specs.Listing.{LF, hex}
use Rattle.rules.specs.Commands.{Command, insert, delete, find, compact, Outcome, answered}
use Rattle.rules.specs.declared.Refusal.TheVariants.{Line}

-- ---- lines

-- A byte in front of the first line; where there is none, it is a line of its own.
unfoldable pub joined : ℕ → List (List ℕ) → List (List ℕ)
joined b [] = (b ∷ []) ∷ []
joined b (l ∷ ls) = (b ∷ l) ∷ ls

-- A line ends at a line feed or at the sheet's end; no line follows a final line feed.
unfoldable pub sheet_lines : List ℕ → List (List ℕ)
sheet_lines [] = []
sheet_lines (b ∷ bs) = cond (eqb b LF) ([] ∷ sheet_lines bs) (joined b (sheet_lines bs))

-- ---- hexadecimal

-- What a digit stands for; 16 for a byte other than 0-9 and a-f.
unfoldable pub nibble : ℕ → ℕ
nibble b = cond (within 48 57 b) (b - 48) (cond (within 97 102 b) (b - 87) 16)

-- Whether each byte is a digit.
unfoldable pub digits : List ℕ → Bool
digits [] = true
digits (b ∷ bs) = ltb (nibble b) 16 && digits bs

-- The number that digits stand for, after those that stand for n.
unfoldable pub read_on : ℕ → List ℕ → ℕ
read_on n [] = n
read_on n (b ∷ bs) = read_on (n * 16 + nibble b) bs

-- The number in the k digits from i on.
unfoldable pub field : List ℕ → ℕ → ℕ → ℕ
field line i k = read_on 0 (take k (drop i line))

-- The bytes in n pairs of digits from i on.
unfoldable pub pairs : List ℕ → ℕ → ℕ → List ℕ
pairs line i zero = []
pairs line i (suc n) = field line i 2 ∷ pairs line (i + 2) n

-- ---- a line: operation, length, characters, number

-- 01 insert, 02 delete, 03 find, 04 compact. Delete and find carry number 0; compact carries length 0.
unfoldable pub command_of : ℕ → ℕ → List ℕ → ℕ → Option Command
command_of operation len key n =
    cond (eqb operation 1) (some (insert key n))
    (cond (eqb operation 2 && eqb n 0) (some (delete key))
    (cond (eqb operation 3 && eqb n 0) (some (find key))
    (cond (eqb operation 4 && eqb len 0) (some (compact n)) none)))

-- The command of a line, or none: a byte other than 0-9 and a-f, a line not of 12 bytes plus twice the length field's value,
-- an unknown operation, a number or a length not 0 where it has to be.
unfoldable pub parsed : List ℕ → Option Command
parsed line =
    let len = field line 2 2 in
    let command = command_of (field line 0 2) len (pairs line 4 len) (field line (4 + 2 * len) 8) in
    cond (digits line && eqb (length line) (12 + 2 * len)) command none

-- ---- the answers

-- Each answer is 11 bytes: answer number (2 digits), value (8 digits), line feed.
unfoldable pub answer_bytes : Answer → List ℕ
answer_bytes a = hex 2 (number a) ++ (hex 8 (value a) ++ (LF ∷ []))

-- The bytes of the answers, and the table after them.
pub record Answered : Type 0 where
  pub bytes : List ℕ
  pub table : Table

module _ (P : Profile) (last : ℕ) where
  -- A line is refused as LINE, or answered as the single call would answer on a table that passes the audit.
  unfoldable pub answered_line : Table → Option Command → Outcome
  answered_line t none = record { answer = Err Line; table = t }
  answered_line t (some command) = answered P last t true command

  -- The lines are answered in turn.
  unfoldable pub answered_lines : Table → List (List ℕ) → Answered
  answered_lines t [] = record { bytes = []; table = t }
  answered_lines t (l ∷ ls) =
      let one = answered_line t (parsed l) in
      let rest = answered_lines one.table ls in
      record { bytes = answer_bytes one.answer ++ rest.bytes; table = rest.table }

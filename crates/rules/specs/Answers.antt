-- The answers, as the table under 'A run' has them: each one's number and its value.
use Rattle.std.specs.Prelude.{ℕ, Bool, Result, Ok, Err, cond, ltb, eqb}
use Rattle.rules.specs.declared.Done.{Done}
use Rattle.rules.specs.declared.Done.TheVariants.{Count, Row}
use Rattle.rules.specs.declared.Refusal.{Refusal}
use Rattle.rules.specs.declared.Refusal.TheVariants.{Size, Key, Number, Damaged, Present, Absent, NoRoom, NoSpace, Line}

-- What a call answers: done, with a count or a row; or refused.
abbrev pub Answer : Type 0
Answer = Result Done Refusal

-- The number in the table's first column.
abbrev pub number : Answer → ℕ
number (Ok d) = 0
number (Err Size) = 1
number (Err Key) = 2
number (Err Number) = 3
number (Err Damaged) = 4
number (Err (Present r)) = 5
number (Err Absent) = 6
number (Err NoRoom) = 7
number (Err NoSpace) = 8
number (Err Line) = 9

-- The value: 0 on refusal, but PRESENT gives the row held.
abbrev pub value : Answer → ℕ
value (Ok (Count n)) = n
value (Ok (Row r)) = r.0
value (Err Size) = 0
value (Err Key) = 0
value (Err Number) = 0
value (Err Damaged) = 0
value (Err (Present r)) = r.0
value (Err Absent) = 0
value (Err NoRoom) = 0
value (Err NoSpace) = 0
value (Err Line) = 0

-- Whether a call is done, and not refused.
abbrev pub is_done : Answer → Bool
is_done a = eqb (number a) 0

-- Done, with the count n.
abbrev pub counted : ℕ → Answer
counted n = Ok (Count n)

-- Done, with the row n.
abbrev pub found : ℕ → Answer
found n = Ok (Row (record { 0 = n }))

-- Done, with the row n; ABSENT where it is 0.
abbrev pub found_or_absent : ℕ → Answer
found_or_absent n = cond (ltb 0 n) (found n) (Err Absent)

-- Refused, with the row n held.
abbrev pub present : ℕ → Answer
present n = Err (Present (record { 0 = n }))

-- A sheet in parts: where a part is cut, what is carried over to the next one, and what a part's answers are of the whole.
use Rattle.std.specs.Prelude.{◌≡◌, true, List, [], ◌++◌, ℕ, ◌*◌, ◌-◌, ◌≤◌, min, length, take, drop, ℤ}
use Rattle.rules.specs.WhatTheIndexDoes.{document01}
use Rattle.rules.specs.ASoundTable.{sound}
use Rattle.rules.specs.ARun.{Answered}
use Rattle.tree.specs.Sheets.{Unbroken, WholeLines, TOO_LONG}
use Rattle.sheets.specs.Answering.{lines_answered}

-- The first r bytes end with one of the part's lines, and no line ends behind them.
pub record Cut (part : List ℕ) (r : ℕ) : Type 0 where
  pub within : r ≤ length part
  pub finished : WholeLines (take r part)
  pub unfinished : Unbroken (drop r part)

-- That the bytes from one place up to another be carried over to the front.
pub record Carries (buffer : List ℕ) (from to : ℕ) : Type 0 where
  pub order : from ≤ to
  pub within : to ≤ length buffer

-- So many bytes are at the front: all of them, or as many as make a line too long.
pub record Carried (buffer : List ℕ) (from to r : ℕ) (buffer' : List ℕ) : Type 0 where
  pub count_is : r ≡ min (to - from) TOO_LONG
  pub front : take r buffer' ≡ take TOO_LONG (take (to - from) (drop from buffer))

-- That the finished lines among the first n bytes be answered, with room for as many answers as there can be.
pub record AnswersPart (base check : List ℤ) (buffer : List ℕ) (n : ℕ) (out : List ℕ) : Type 0 where
  pub whole : sound document01 base check ≡ true
  pub within : n ≤ length buffer
  pub room : 11 * n ≤ length out

-- Answers, and behind them those that follow.
abbrev pub behind : List ℕ → Answered → Answered
behind bytes a = record { bytes = bytes ++ a.bytes; table = a.table }

-- Whatever follows, the answers to the part with it are those written now, and behind them the answers to what is carried over with it,
-- on the table that is left. No line is kept back that is finished; the table is sound; and a line that is too long is carried over no
-- further.
pub record PartAnswered (base check : List ℤ) (buffer : List ℕ) (n lines held : ℕ) (base' check' : List ℤ) (buffer' out' : List ℕ) : Type 0 where
  pub later : (rest : List ℕ) → lines_answered base check (take n buffer ++ rest) ≡ behind (take (11 * lines) out') (lines_answered base' check' (take held buffer' ++ rest))
  pub unfinished : Unbroken (take held buffer')
  pub whole : sound document01 base' check' ≡ true
  pub few : lines ≤ n
  pub short : held ≤ TOO_LONG

-- ---- the whole sheet

-- From a table, with what is carried over, a sheet that comes in parts has these bytes written: of each part put behind what is carried
-- over those of its finished lines, and at the end those of what is then carried over.
pub data Streamed : List ℤ → List ℤ → List ℕ → List ℕ → List ℕ → Type 0 where
  ended : {base check : List ℤ} {held : List ℕ} → Streamed base check held [] (lines_answered base check held).bytes
  part : {base check base' check' : List ℤ} {buffer buffer' out' : List ℕ} {n lines held : ℕ} (carried more sheet out : List ℕ) →
      take n buffer ≡ carried ++ more → PartAnswered base check buffer n lines held base' check' buffer' out' →
      Streamed base' check' (take held buffer') sheet out → Streamed base check carried (more ++ sheet) (take (11 * lines) out' ++ out)

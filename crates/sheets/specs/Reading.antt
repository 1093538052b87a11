-- What is read from the first line of what is left of a sheet.
use Rattle.std.specs.Prelude.{◌≡◌, Bool, cond, List, ℕ, length, get_or, take, ltb, eqb, Option, Some, None, MatchOption}
use Rattle.std.proofs.Math.Option as maybe
use Rattle.rules.specs.Listing.{LF}
use Rattle.rules.specs.Commands as commands
use Rattle.rules.specs.ARun.{parsed}
use Rattle.tree.specs.Sheets.{FirstLine}
use Rattle.sheets.specs.declared.reading.Command.{Command}
use Rattle.sheets.specs.declared.reading.Command.TheVariants.{Insert, Delete, Find, Compact}

-- Whether a line can end there: at the end of what is left, or at a line feed.
abbrev pub is_end : List ℕ → ℕ → Bool
is_end rest end = cond (ltb end (length rest)) (eqb (get_or rest end 0) LF) (eqb (length rest) end)

-- The command that is asked for.
abbrev pub asked : Command → commands.Command
asked (Insert key row) = commands.insert key.now row.0
asked (Delete key) = commands.delete key.now
asked (Find key) = commands.find key.now
asked (Compact n) = commands.compact n

-- The same, or none.
abbrev pub asked_or_none : Option Command → maybe.Option commands.Command
asked_or_none None = maybe.none
asked_or_none (Some c) = maybe.some (asked c)

-- The first line ends there, and this is its command or none.
pub record LineRead (rest : List ℕ) (c : Option Command) (end : ℕ) : Type 0 where
  pub first : FirstLine rest end
  pub command : parsed (take end rest) ≡ asked_or_none c

-- A line that is read: the first line ends there, and this is its command or none. With none read, it is no command, wherever it ends.
abbrev pub FramedRead : List ℕ → Option (Option Command × ℕ) → Type 0
FramedRead rest r = MatchOption r ((end : ℕ) → FirstLine rest end → parsed (take end rest) ≡ maybe.none) (λ c. LineRead rest c.0 c.1)

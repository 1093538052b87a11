-- A command as a line of a sheet, without its line feed.
use Rattle.std.specs.Prelude.{List, [], ◌++◌, ℕ, ◌<◌, length, get_or}
use Rattle.rules.specs.Listing.{hex, hexes}
use Rattle.rules.specs.Commands.{Command, insert, delete, find, compact}

-- Operation (2 digits), length (2 digits), the characters (2 digits each), number (8 digits).
unfoldable pub four_fields : ℕ → List ℕ → ℕ → List ℕ
four_fields operation key n = hex 2 operation ++ (hex 2 (length key) ++ (hexes key ++ hex 8 n))

-- Delete and find carry number 0; compact carries length 0.
unfoldable pub command_line : Command → List ℕ
command_line (insert key n) = four_fields 1 key n
command_line (delete key) = four_fields 2 key 0
command_line (find key) = four_fields 3 key 0
command_line (compact n) = four_fields 4 [] n

-- A text that the fields can hold: fewer than 256 bytes, each below 256.
pub record Bytes (key : List ℕ) : Type 0 where
  pub few : length key < 256
  pub small : (k : ℕ) → k < length key → get_or key k 0 < 256

-- A number that 8 digits can hold.
abbrev pub EightDigits : ℕ → Type 0
EightDigits n = n < 4294967296

-- What a line can hold of a command.
abbrev pub Writable : Command → Type 0
Writable (insert key n) = Bytes key × EightDigits n
Writable (delete key) = Bytes key
Writable (find key) = Bytes key
Writable (compact n) = EightDigits n

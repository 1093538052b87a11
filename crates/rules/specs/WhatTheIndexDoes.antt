-- Document 01, 'What the index does': identifiers, rows, arrays and label codes.
use Rattle.std.specs.Prelude.{ℕ, ◌+◌, ◌-◌, ◌≤◌, ◌≡◌, Bool, true, false, Option, IfSome, cond, ◌&&◌, List, [], ◌∷◌, ◌++◌, map, length, ℤ, leb, eqb}
use Rattle.rules.specs.declared.Refusal.{Refusal}
use Rattle.rules.specs.declared.Refusal.TheVariants.{Size}
use Rattle.rules.specs.Options.{some_number}
use Rattle.rules.specs.Ranges.{within}

-- ---- the label codes belong to the alphabet

-- The end mark's code.
abbrev pub END : ℕ
END = 1

-- The greatest code.
abbrev pub GREATEST : ℕ
GREATEST = 38

-- The code of a character: a-z 2 to 27, 0-9 28 to 37, hyphen 38; 0 for any other byte.
unfoldable pub code_of : ℕ → ℕ
code_of b =
    cond (within 97 122 b) (b - 95) (cond (within 48 57 b) (b - 20) (cond (eqb b 45) GREATEST 0))

-- The character of a code from 2 to 38; 0 for any other number.
unfoldable pub character_of : ℕ → ℕ
character_of c =
    cond (within 2 27 c) (c + 95) (cond (within 28 37 c) (c + 20) (cond (eqb c GREATEST) 45 0))

-- What `Alphabet::code` gives: the code, if there is one, not past the greatest.
pub record Code (b : ℕ) (r : Option ℕ) : Type 0 where
  pub is : r ≡ some_number (code_of b)
  pub small : IfSome r (λ c. c ≤ GREATEST)

-- What differs between one set of identifiers and another.
pub record Profile : Type 0 where
  -- the code of a character; 0 where it has none
  pub code : ℕ → ℕ
  -- the character of a code
  pub character : ℕ → ℕ
  -- the greatest code
  pub greatest : ℕ
  -- the greatest length of an identifier
  pub limit : ℕ
  -- what check[1] holds
  pub mark : ℕ

-- Document 01's profile.
abbrev pub document01 : Profile
document01 = record { code = code_of; character = character_of; greatest = GREATEST; limit = 32; mark = 1 }

-- The two functions undo each other, and the end mark is not one of the characters.
pub record RoundTrip (P : Profile) : Type 0 where
  pub back : (b : ℕ) → 1 ≤ P.code b → P.character (P.code b) ≡ b
  pub forth : (c : ℕ) → 2 ≤ c → c ≤ P.greatest → P.code (P.character c) ≡ c
  pub range : (b : ℕ) → P.code b ≤ P.greatest
  pub unmarked : (b : ℕ) → 1 ≤ P.code b → 2 ≤ P.code b

-- ---- identifiers, rows, arrays

-- Whether each character has a code.
unfoldable pub coded : Profile → List ℕ → Bool
coded P [] = true
coded P (b ∷ bs) = leb 1 (P.code b) && coded P bs

-- Identifier: 1 to 32 characters from a-z, 0-9 and hyphen.
unfoldable pub is_identifier : Profile → List ℕ → Bool
is_identifier P key = within 1 P.limit (length key) && coded P key

-- An identifier's labels: the codes of its characters, followed by the end mark.
unfoldable pub labels : Profile → List ℕ → List ℕ
labels P key = map P.code key ++ (END ∷ [])

-- Row: 1 to 1,000,000.
unfoldable pub is_row : ℕ → Bool
is_row n = within 1 1000000 n

-- Arrays: equal lengths, 2 to 65,536 elements.
unfoldable pub right_lengths : List ℤ → List ℤ → Bool
right_lengths base check = eqb (length base) (length check) && within 2 65536 (length base)

-- What is lent in the right lengths: these two arrays.
pub record Lent (base check base' check' : List ℤ) : Type 0 where
  pub right : right_lengths base check ≡ true
  pub base_is : base' ≡ base
  pub check_is : check' ≡ check

-- SIZE: the lengths are wrong.
pub record Unfit (base check : List ℤ) (r : Refusal) : Type 0 where
  pub wrong : right_lengths base check ≡ false
  pub refused : r ≡ Size

-- Cells are numbered from 1, so the last cell is length minus 1.
abbrev pub last_cell : List ℤ → ℕ
last_cell base = length base - 1

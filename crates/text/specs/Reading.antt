-- What those who read numbers and characters give.
use Rattle.std.specs.Prelude.{◌≡◌, cond, List, ℕ, ◌<◌, ◌^◌, length, Option, Some, None, IfSome, is_some, ⊤}
use Rattle.rules.specs.ARun.{digits, read_on, pairs}

-- The number that these digits say; none where one of them is no digit.
abbrev pub number_in : List ℕ → Option ℕ
number_in bytes = cond (digits bytes) (Some (read_on 0 bytes)) None

-- The number read; if it is one, as many digits say it.
pub record NumberRead (bytes : List ℕ) (r : Option ℕ) : Type 0 where
  pub is : r ≡ number_in bytes
  pub small : IfSome r (λ n. n < 16 ^ length bytes)

-- Something where each byte is a digit; the key is then the characters.
pub record CharactersRead (bytes key : List ℕ) (r : Option ⊤) : Type 0 where
  pub is : is_some r ≡ digits bytes
  pub read : IfSome r (λ _. key ≡ pairs bytes 0 (length key))

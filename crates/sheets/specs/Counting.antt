-- Counting a sheet's lines.
use Rattle.std.specs.Prelude.{Bool, cond, not, ◌&&◌, List, [], ◌∷◌, ℕ, suc, ◌-◌, length, get_or, ltb, eqb}
use Rattle.rules.specs.Listing.{LF}

-- The line feeds among these bytes.
unfoldable pub feeds_in : List ℕ → ℕ
feeds_in [] = 0
feeds_in (b ∷ bs) = cond (eqb b LF) (suc (feeds_in bs)) (feeds_in bs)

-- Whether the last line has no line feed.
unfoldable pub is_unfinished : List ℕ → Bool
is_unfinished s = ltb 0 (length s) && not (eqb (get_or s (length s - 1) 0) LF)

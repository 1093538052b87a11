-- Document 01, 'Listing': the entries of a table in order, and their bytes.
use Rattle.std.specs.Prelude.{ℕ, zero, suc, ◌+◌, ◌-◌, ◌/◌, ◌%◌, cond, List, [], ◌∷◌, ◌++◌, length, ltb, eqb}
use Rattle.rules.specs.WhatTheIndexDoes.{END, Profile}
use Rattle.rules.specs.Table.{Cells, next}

-- An identifier and its row.
pub record Entry : Type 0 where
  pub key : List ℕ
  pub row : ℕ

abbrev pub entry : List ℕ → ℕ → Entry
entry key n = record { key = key; row = n }

-- ---- the entries

-- The label tried when n are left: in order of label codes, end mark first.
unfoldable pub listed : Profile → ℕ → ℕ
listed P n = suc P.greatest - n

-- An identifier's beginning with the label c after it; the end mark is not one of its characters.
unfoldable pub spelt : Profile → List ℕ → ℕ → List ℕ
spelt P key c = cond (eqb c END) key (key ++ (P.character c ∷ []))

-- Trying the last n labels of s; each label found visits the cell below, as `visit` says.
unfoldable pub tried : Profile → (ℕ → List ℕ → List Entry) → Cells → ℕ → List ℕ → ℕ → List Entry
tried P visit T s key zero = []
tried P visit T s key (suc n) =
    let c = listed P (suc n) in
    let below = visit (next T s c) (spelt P key c) in
    (cond (eqb (next T s c) 0) [] below) ++ tried P visit T s key n

-- A visit of the cell s, to which key leads: a leaf is an entry; of any other cell the labels are tried, while there is depth.
unfoldable pub visited : Profile → ℕ → Cells → ℕ → List ℕ → List Entry
visited P zero T s key = cond (ltb 0 (T s).row) (entry key (T s).row ∷ []) []
visited P (suc depth) T s key =
    let below = tried P (visited P depth T) T s key P.greatest in
    cond (ltb 0 (T s).row) (entry key (T s).row ∷ []) below

-- The entries of a table: the root is visited; no leaf lies deeper than an identifier's limit and its end mark.
unfoldable pub entries : Profile → Cells → List Entry
entries P T = visited P (suc P.limit) T 1 []

-- ---- their bytes

-- The lower-case hexadecimal digit of a number below 16.
unfoldable pub digit : ℕ → ℕ
digit n = cond (ltb n 10) (48 + n) (87 + n)

-- The last k hexadecimal digits of n.
unfoldable pub hex : ℕ → ℕ → List ℕ
hex zero n = []
hex (suc k) n = hex k (n / 16) ++ (digit (n % 16) ∷ [])

-- Characters, 2 digits each.
unfoldable pub hexes : List ℕ → List ℕ
hexes [] = []
hexes (b ∷ bs) = hex 2 b ++ hexes bs

-- The line feed.
abbrev pub LF : ℕ
LF = 10

-- One line an identifier: length (2 digits), the characters (2 digits each), the row (8 digits), line feed.
unfoldable pub line_of : Entry → List ℕ
line_of e = hex 2 (length e.key) ++ (hexes e.key ++ (hex 8 e.row ++ (LF ∷ [])))

-- The lines of some entries.
unfoldable pub lines_of : List Entry → List ℕ
lines_of [] = []
lines_of (e ∷ es) = line_of e ++ lines_of es

-- The listing of a table.
unfoldable pub listing : Profile → Cells → List ℕ
listing P T = lines_of (entries P T)

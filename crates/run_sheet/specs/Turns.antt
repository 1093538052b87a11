-- What the program holds from turn to turn, and what a turn comes to.
use Rattle.std.specs.Prelude.{◌≡◌, true, List, ℕ, ◌+◌, ◌*◌, ◌-◌, ◌≤◌, length, take, Result, Ok, Err}
use Rattle.rules.specs.WhatTheIndexDoes.{document01}
use Rattle.rules.specs.ASoundTable.{sound}
use Rattle.tree.specs.Sheets.{TOO_LONG}
use Rattle.sheets.specs.Answering.{AllAnswered}
use Rattle.parts.specs.Parts.{PartAnswered}
use Rattle.run_sheet.specs.declared.Desk.{Desk}
use Rattle.run_sheet.specs.declared.Turn.{Turn}
use Rattle.run_sheet.specs.declared.Turn.TheVariants.{Part, Last}
use Rattle.run_sheet.specs.declared.Failure.{Failure}
use Rattle.run_sheet.specs.declared.Failure.TheVariants.{Read}

-- What a read into n bytes may answer: how many bytes it moved, at most n, or that it failed.
abbrev pub Moved : ℕ → Result ℕ Failure → Type 0
Moved n (Ok k) = k ≤ n
Moved n (Err e) = e ≡ Read

-- A sound table, no more bytes carried over than can be, and buffers for a part and for its answers.
pub record Ready (d : Desk) : Type 0 where
  pub whole : sound document01 d.base d.check ≡ true
  pub short : d.held ≤ TOO_LONG
  pub buffered : length d.buffer ≡ 4096
  pub room : length d.answers ≡ 45056

-- What is carried over stays, and behind it there are the bytes that were read: at most as many as there is room for.
pub record ReadBehind (buffer : List ℕ) (held : ℕ) (got : Result ℕ Failure) (buffer' : List ℕ) : Type 0 where
  pub kept : take held buffer' ≡ take held buffer
  pub moved : Moved (length buffer - held) got

-- That a turn be taken, with what was read.
pub record Reached (d : Desk) (got : Result ℕ Failure) : Type 0 where
  pub ready : Ready d
  pub moved : Moved (length d.buffer - d.held) got

module _ (d : Desk) (got : Result ℕ Failure) (d' : Desk) where
  -- Some bytes were read. With what is carried over they are answered as a part, and all is ready for the next.
  pub record PartTaken (lines : ℕ) : Type 0 where
    pub more : ℕ
    pub got_is : got ≡ Ok more
    pub some : 1 ≤ more
    pub answered : PartAnswered d.base d.check d.buffer (d.held + more) lines d'.held d'.base d'.check d'.buffer d'.answers
    pub room : 11 * lines ≤ length d'.answers
    pub ready : Ready d'

  -- None were, since the sheet has ended. What is carried over is answered to its end.
  pub record LastTaken (lines : ℕ) : Type 0 where
    pub got_is : got ≡ Ok 0
    pub answered : AllAnswered d.base d.check (take d.held d.buffer) d.answers lines d'.base d'.check d'.answers
    pub room : 11 * lines ≤ length d'.answers

  -- What a turn comes to. Each of the three has its own answer of read, and so no other one fits.
  abbrev pub Taken : Result Turn Failure → Type 0
  Taken (Ok (Part lines)) = PartTaken lines
  Taken (Ok (Last lines)) = LastTaken lines
  Taken (Err e) = got ≡ Err e

-- Where the sheet begins all is ready, and nothing is carried over.
pub record Begins (d : Desk) : Type 0 where
  pub ready : Ready d
  pub nothing : d.held ≡ 0

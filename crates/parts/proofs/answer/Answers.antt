-- `answer` cuts the part behind its last line feed, answers the lines in front of the cut and carries what is behind it over. Assumes
-- nothing.
use native.Mathlib.Omega.{arith}
use Rattle.parts.proofs.InParts.{answers_room, part_answered}
use Rattle.parts.proofs.answer.Goals as goal

pub answer-lines-requires : goal.answer-lines-requires
answer-lines-requires c = record { whole = c.requires.whole; room = answers_room c.requires c.cut-end.ensures }

pub returns : goal.returns
returns c = part_answered c.requires c.cut-end.ensures c.answer-lines.ensures c.carry-held.ensures (omega arith)

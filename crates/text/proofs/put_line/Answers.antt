-- `put_line` writes the four parts of a line one after the other. Assumes nothing.
use Rattle.text.proofs.Hexadecimal.{line_parts}
use Rattle.text.proofs.put_line.Goals as goal

pub returns : goal.returns
returns c = cc (line_parts _ _)

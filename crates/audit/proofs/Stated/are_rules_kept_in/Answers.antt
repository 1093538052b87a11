-- `are_rules_kept_in` lends marks and notes for N cells. Assumes nothing.
use Rattle.audit.proofs.Unmarked.{first_look}
use Rattle.audit.proofs.Stated.are_rules_kept_in.Goals as goal

pub are_rules_kept-requires : goal.are_rules_kept-requires
are_rules_kept-requires g c = first_look c.requires.first_kept g.row.N c.requires.room

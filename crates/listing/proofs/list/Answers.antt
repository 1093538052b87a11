-- `list` measures the whole listing, and writes it where it fits. Assumes nothing.
use Rattle.rules.proofs.Choices.{was_no, was_yes}
use Rattle.listing.proofs.WholeListing.{root_visits, list_no_space, list_done}
use Rattle.listing.proofs.list.Goals as goal

pub returns-then-not-has_room : goal.returns-then-not-has_room
returns-then-not-has_room c = list_no_space _ _ (was_no _ c.has_room.ensures c.if-not-has_room.true)

pub visit-written-requires : goal.visit-written-requires
visit-written-requires c = rw c.new-key.ensures (root_visits _ _ c.requires (was_yes _ c.has_room.ensures c.if-not-has_room.false))

pub returns : goal.returns
returns c = list_done _ _ (was_yes _ c.has_room.ensures c.if-not-has_room.false) (rw c.new-key.ensures at c.visit-written.ensures.lists)

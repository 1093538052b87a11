-- Where a label leads; a walk by its first character; what a walk comes to: the row that is found; and the same in a table known to
-- be sound.
pub mod Options
pub mod Leading
pub mod Stepping
pub mod RowFound
pub mod KnownSound

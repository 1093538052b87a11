-- The rules in the audit's terms: what a sound table keeps, and that it is enough.
pub mod SoundKept
pub mod KeptSound
-- Laws that they and the functions' proofs cite.
pub mod Says
pub mod Downwards
pub mod NextFree
pub mod Marks
pub mod Depths
pub mod Unmarked
pub mod Climbing

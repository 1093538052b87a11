-- What the audit's functions say.
pub mod Says
pub mod Kept
pub mod Marks
pub mod Ways

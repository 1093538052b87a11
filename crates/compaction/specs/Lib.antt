-- What the parts of a compaction are asked, and what they leave.
pub mod Lowering

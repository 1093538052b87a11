-- The search: which cells count as used, how far it has come, the bases that one look shuts out, and an example with a gap.
pub mod TakenCells
pub mod Seeking
pub mod GreatestFirst
pub mod AGap

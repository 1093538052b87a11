-- What the proofs of several functions use, and laws for the crates above.
pub mod Choices
pub mod Ranges
pub mod Lengths
pub mod Texts
pub mod Digits
pub mod Codes
pub mod Walks
pub mod Options

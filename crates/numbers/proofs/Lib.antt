-- What the proofs of several functions use, and the laws for the crates above.
pub mod Cases
pub mod Machine
pub mod Laws

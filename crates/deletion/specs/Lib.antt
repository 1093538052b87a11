-- What the parts of a deletion are asked.
pub mod Deleting

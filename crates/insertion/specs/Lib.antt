-- What the parts of an insertion are asked, and what they leave.
pub mod Inserting

-- What the edits of a cell and of the size are asked and leave.
pub mod Edits

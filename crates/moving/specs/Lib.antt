-- What those who collect and move a node's children are asked and leave.
pub mod Children

-- What those who put a branch below a node are asked, and what they leave.
pub mod Branches

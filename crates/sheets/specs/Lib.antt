-- What is asked of those who answer a sheet's lines, and what they leave.
pub mod Counting
pub mod Reading
pub mod Answering

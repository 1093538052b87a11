-- What is asked of those who answer a sheet in parts, and what they leave.
pub mod Parts

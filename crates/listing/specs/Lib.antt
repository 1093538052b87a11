-- What the visits of a listing are asked, and what they leave.
pub mod Visiting
-- How long a listing is, cell by cell.
pub mod Measuring

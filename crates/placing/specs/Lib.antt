-- What the inner search is asked and finds, and a walk along the chain to a cell.
pub mod Search

-- A node's children: their codes, and their move.
pub mod Handing
pub mod OneHop
pub mod HopByHop

-- The next free cell, and what arrays hold that show a table.
pub mod NextFree
pub mod Shown
pub mod Stores
pub mod Holding
-- The search along a table's chain.
pub mod Placed
-- The size, and the chain.
pub mod Resizing
pub mod Relinking

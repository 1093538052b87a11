-- The cells that become free.
mod FreedCells

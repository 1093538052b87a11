-- Bytes written from a byte on.
mod Writing
-- The beginnings of identifiers.
mod Beginnings
-- The cases of a visit and of the labels tried.
mod LinesFound
mod FirstFound
mod Visiting
-- The length of the listing, cell by cell.
mod Measured
mod Climbing
-- The whole call.
mod WholeListing

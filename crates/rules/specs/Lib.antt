-- Document 01 as definitions.
-- Its sections, under their names and in their order:
pub mod WhatTheIndexDoes
pub mod ASoundTable
pub mod Finding
pub mod Placement
pub mod Insertion
pub mod DeletionAndCompaction
pub mod Listing
pub mod ARun
pub mod Figures
-- What they speak of: the abstract table, the commands on it, the answers, ranges of numbers.
pub mod Table
pub mod Commands
pub mod Answers
pub mod Ranges
-- What the program hands on where a definition gives a number of which 0 is none.
pub mod Options
-- The two arrays: how a table stands in them, the eight calls, the form of a call's promise, and the plain method of demand 3.
pub mod Rendering
pub mod Calls
pub mod Promised
pub mod PlainMethod

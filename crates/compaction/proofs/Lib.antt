-- A compaction: one step, and steps in a row.
mod Compacting

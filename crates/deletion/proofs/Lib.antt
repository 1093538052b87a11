-- A deletion: the removal as a whole.
mod Removal
-- The two commands, on a table known to be sound.
mod CarriedOut

-- What the laws speak of, beside document 01's own definitions.
-- Sound tables, and their rendering.
pub mod Soundness
pub mod Renders
pub mod TheChain
-- What is said of the commands.
pub mod Moved
pub mod MovingInTurn
pub mod Room
pub mod StepsTaken
pub mod AfterAnEdit
pub mod Labels
pub mod Listed
-- Sheets.
pub mod Sheets
pub mod WrittenLines
-- The plain list of demand 2.
pub mod ThePlainList
-- Lists, and sums.
pub mod Members
pub mod Sums

-- The laws, in the order of what they show.
-- Steps, walks and paths.
pub mod Steps
pub mod UsedCells
pub mod TidyTables
pub mod Trees
-- Placement.
pub mod Placement
pub mod ChildCodes
pub mod PlacedChildren
-- Relocation.
pub mod Relocation
pub mod RelocatedTree
pub mod MovingInTurn
pub mod ThereAndBack
-- Insertion.
pub mod OneCell
pub mod Branches
pub mod Collisions
pub mod Courses
pub mod Room
pub mod Identifiers
pub mod OneIdentifier
pub mod Insertion
pub mod Refusals
-- Deletion and compaction.
pub mod Pruning
pub mod LargestUsed
pub mod Compaction
pub mod StepsTaken
pub mod Deletion
-- The two arrays: the seven rules, and the chain.
pub mod Elements
pub mod Climbs
pub mod ReadTests
pub mod FreeCells
pub mod FromRules
pub mod ToRules
pub mod SevenRules
pub mod TheChain
-- The listing.
pub mod Listing
pub mod Sums
pub mod OnTheWay
pub mod LeafByLeaf
pub mod ListingLength
-- Demand 2.
pub mod EmptyTable
pub mod PlainList
pub mod AnyHistory
pub mod Finding
pub mod AnExample
-- A run.
pub mod SheetLines
pub mod LongLines
pub mod Runs
pub mod SingleCalls
pub mod EndedRuns
pub mod RunCalls
pub mod WrittenLines
-- What a command leaves in the arrays.
pub mod Outcomes
pub mod Answered
-- What an answer's value can be.
pub mod Values
-- Where the walk stops, insertion begins.
pub mod Stopping
pub mod Labels

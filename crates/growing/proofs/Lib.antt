-- A branch: how it grows, and what its course leaves.
pub mod Leaving
mod Growing

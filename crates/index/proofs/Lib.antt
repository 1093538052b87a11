-- What an edit's call promises in each of its cases, and what two stores make of an array of equal elements.
pub mod Editing
pub mod Stores

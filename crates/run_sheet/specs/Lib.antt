-- What the program holds from turn to turn.
pub mod Turns

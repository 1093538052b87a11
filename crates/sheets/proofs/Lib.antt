-- Laws of a sheet's lines and of the answers to them.
mod Counted
mod Framed
mod Carried
mod InTurn

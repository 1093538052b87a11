-- Laws of a sheet in parts.
mod Places
pub mod InParts

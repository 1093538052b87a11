-- What is packed comes back.
pub mod Packing

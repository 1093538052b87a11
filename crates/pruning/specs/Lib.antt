-- What those who free the cells after the leaf are asked.
pub mod Parents

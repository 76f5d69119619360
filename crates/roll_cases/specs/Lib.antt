-- The definition of the bytes that a line stands for.
pub mod Expanding

-- The definitions of the exported functions: a head as a row of numbers, one call, many states.
pub mod Heads
pub mod Calls
pub mod Folds

-- The definitions of the roll-up: the head, header rules, taking in, adding, writing, lists of calls, states that are cut off, and the examples; the others are what single functions ask and promise.
pub mod Accumulator
pub mod Header
pub mod Refusals
pub mod Lent
pub mod Taking
pub mod Adding
pub mod Writing
pub mod WritingPaths
pub mod Calls
pub mod Cuts
pub mod Judging
pub mod Stages
pub mod Examples

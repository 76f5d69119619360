-- The definitions of values, lists and registers, and the examples that they are held to.
pub mod Values
pub mod Pairs
pub mod Sorting
pub mod Order
pub mod Digits
pub mod Lists
pub mod Merging
pub mod MergeSays
pub mod Registers
pub mod Examples

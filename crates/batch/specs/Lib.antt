-- The definitions of batches: the chain, its records, rolling it up, the closing numbers, making a batch and walking it.
pub mod Chain
pub mod Records
pub mod Batch
pub mod Closing
pub mod Packing
pub mod Unpacking

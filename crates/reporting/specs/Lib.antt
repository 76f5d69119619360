-- The definitions of what is printed of a batch.
pub mod Numbers
pub mod Text
pub mod Report
pub mod Examples

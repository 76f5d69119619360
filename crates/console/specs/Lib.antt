-- The definitions of reading a stream and of the text of answers.
pub mod Input
pub mod Output
pub mod Text

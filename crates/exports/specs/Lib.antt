-- The definitions of states as text: words, base64, hexadecimal, lines, a batch of lines, the lines of a batch, what the programs say.
pub mod Words
pub mod Base64
pub mod Hexadecimal
pub mod Lines
pub mod Packing
pub mod Text
pub mod Unpacking
pub mod Replies

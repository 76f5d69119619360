-- The laws of reading a stream and of the text of answers.
pub mod InputLaws
pub mod OutputLaws
pub mod RoundTrip
pub mod TextLaws

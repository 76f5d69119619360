-- What the program asks of a case before a call.
pub mod Tests

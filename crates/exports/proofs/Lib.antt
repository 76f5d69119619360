-- The laws of states as text, each file after those that it needs.
pub mod WordLaws
pub mod Base64Laws
pub mod LineLaws
pub mod PackLaws
pub mod RoundTrip
pub mod UnpackLaws
pub mod ReplyLaws

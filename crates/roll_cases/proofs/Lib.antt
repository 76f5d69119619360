-- The laws of what a line stands for.
pub mod ExpandingLaws

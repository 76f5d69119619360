-- The laws of the exported functions, each file after those that it needs.
pub mod HeadLaws
pub mod CallLaws
pub mod FoldLaws

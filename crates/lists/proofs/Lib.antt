-- The laws of values, lists and registers, each file after those that it needs.
pub mod CellLaws
pub mod ValueLaws
pub mod UnfitRank
pub mod DecodingLaws
pub mod CheckingLaws
pub mod OrderLaws
pub mod MergeLaws
pub mod MergeSays
pub mod MergingLaws
pub mod SortingLaws
pub mod DigitLaws
pub mod InsertLaws
pub mod RankLaws
pub mod RegisterLaws
pub mod IndexLaws

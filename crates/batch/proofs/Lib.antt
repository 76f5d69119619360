-- The laws of batches, each file after those that it needs.
pub mod ChainLaws
pub mod RollLaws
pub mod ClosingLaws
pub mod CountLaws
pub mod PackingLaws
pub mod NoBatchLaws
pub mod UnpackingLaws

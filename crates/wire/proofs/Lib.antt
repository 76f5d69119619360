-- The laws, each file after those that it needs.
pub mod BoolLaws
pub mod VarintLaws
pub mod ReadingLaws
pub mod StateLaws
pub mod CompactLaws
pub mod EncodingLaws
pub mod BoundLaws
pub mod FieldLaws
pub mod CutLaws
pub mod RoundTrip
pub mod SmallListLaws

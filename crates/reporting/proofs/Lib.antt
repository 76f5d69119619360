-- The laws of the text of a report.
pub mod NumberLaws
pub mod TextLaws
pub mod ReportLaws

-- The definitions of the wire form: varints, fields, reading and writing a state, its layout, and the examples that they are held to.
pub mod Reading
pub mod Varints
pub mod Fields
pub mod State
pub mod View
pub mod Compact
pub mod Encoding
pub mod Layout
pub mod Examples

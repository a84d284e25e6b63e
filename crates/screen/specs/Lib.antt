pub mod ByFields
pub mod Fields
pub mod Fill
pub mod Lines
pub mod Output
pub mod ReadBack
pub mod Series
pub mod Writes

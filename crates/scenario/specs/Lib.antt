pub mod Fill
pub mod Lines
pub mod Output
pub mod Pen
pub mod ReadBack
pub mod Series

pub mod Ask
pub mod Book
pub mod Follow
pub mod Lines
pub mod Output
pub mod ReadBack
pub mod Writes

pub mod Fill
pub mod Follow
pub mod Length
pub mod Lines
pub mod Output
pub mod Series
pub mod Writes

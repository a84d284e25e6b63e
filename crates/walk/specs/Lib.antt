pub mod Apply
pub mod Field
pub mod Follow
pub mod Form
pub mod Moments
pub mod Tagged
pub mod Walk

pub mod Halves
pub mod Masters
pub mod OneRole
pub mod Counts
pub mod Which
pub mod Slaves
pub mod Ranks

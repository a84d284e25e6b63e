pub mod Counts
pub mod Ended
pub mod Hear
pub mod Recount
pub mod Table
pub mod Tallied
pub mod Total
pub mod UnderWay

pub mod Digits
pub mod LeastRank
pub mod Worked

pub mod Bytes
pub mod Feed
pub mod OneRemainder
pub mod Remainder
pub mod Xor

pub mod Answers
pub mod Block
pub mod Claims
pub mod Read
pub mod Steps
pub mod Value
pub mod Write

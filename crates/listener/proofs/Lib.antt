pub mod Always
pub mod OneOutcome
pub mod OnlyListens
pub mod Prints
pub mod Roomy

pub mod CountsAreARecount
pub mod Follows
pub mod Lines
pub mod Passes
pub mod ScenarioRecounted
pub mod SlotHeard
pub mod Station
pub mod Turns

-- What several theorems rest on: the seats after each call, what holds of every station that calls bring about.
pub mod Arrays
pub mod Asked
pub mod AtPhase
pub mod FitKept
pub mod InStep
pub mod Outgoing
pub mod PartAfter
pub mod Seats
pub mod Stations
pub mod Uses

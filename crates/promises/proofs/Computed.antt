-- Computed runs that meet the hypotheses of the theorems.
pub mod ElapsedRuns
pub mod FailedRuns
pub mod FirstSlotWin
pub mod FormWitnesses
pub mod Longest
pub mod NextRuns
pub mod RefusedRuns
pub mod Runs
pub mod TakenWitnesses
pub mod TwelfthRun
pub mod Witnesses

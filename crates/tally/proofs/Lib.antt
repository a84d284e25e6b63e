pub mod AskReads
pub mod CountsPrints
pub mod Digits
pub mod FollowsTheMoments
pub mod LinesReadBack
pub mod RecordsWritten
pub mod TextFits
pub mod Worked

-- The lemmas of `taken_is_handed_out`: what the sender has sent, what the others have read, and that they are in step.
pub mod AllBeside
pub mod Beside
pub mod OthersRead
pub mod OthersTold
pub mod SenderHeard
pub mod TakenAnswer
pub mod TakenBy
pub mod TakenGiven
pub mod Together
pub mod Upto

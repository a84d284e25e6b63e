pub mod Cuts
pub mod LineOrder
pub mod LinesReadBack
pub mod OneOutcome
pub mod OtherLines
pub mod Output
pub mod Reached
pub mod ShownIsTheWalk

pub mod AtMost
pub mod First

pub mod AtMost
pub mod Computed
pub mod First
pub mod FirstIs
pub mod Lists

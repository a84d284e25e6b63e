pub mod Order
pub mod ReadLine
pub mod ShownWalk
pub mod ToldLines

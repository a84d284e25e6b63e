pub mod Half
pub mod Master
pub mod Role

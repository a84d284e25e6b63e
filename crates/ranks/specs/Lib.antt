pub mod Before
pub mod Bits
pub mod Worked

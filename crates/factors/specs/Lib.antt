pub mod Ring
pub mod Coding
pub mod Images
pub mod Remainders
pub mod Whole
pub mod Depth

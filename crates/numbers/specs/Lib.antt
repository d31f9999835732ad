pub mod Literals
pub mod Clamps
pub mod Sizes
pub mod Whole
pub mod Units
pub mod Sums

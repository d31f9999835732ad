pub mod Putting
pub mod Portions

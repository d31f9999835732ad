pub mod Bonds
pub mod Price
pub mod Brent
pub mod Yield
pub mod Durations
pub mod Codes
pub mod inner

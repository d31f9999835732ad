pub mod Units
pub mod Curves
pub mod Flows
pub mod Spread
pub mod Dated

pub mod SumTests
pub mod FlowSums
pub mod Passes
pub mod BracketTests
pub mod CodeTrips
pub mod Exactly
pub mod Tight

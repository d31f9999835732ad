pub mod Putting
pub mod DigitLaws
pub mod Lengths
pub mod RoomLaws
pub mod PortionLaws
pub mod Whole
pub mod Tight

pub mod Asking
pub mod Planning
pub mod Taking
pub mod Drawing
pub mod OneByOne
pub mod Figures
pub mod Exactly
pub mod Tight

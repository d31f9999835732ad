pub mod YieldKind
pub mod Pars
pub mod Points
pub mod Splines
pub mod Outside
pub mod AtKnots
pub mod Exactly
pub mod Tight

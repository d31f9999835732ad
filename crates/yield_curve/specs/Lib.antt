pub mod Linear
pub mod Spline
pub mod NelsonSiegel
pub mod Solve
pub mod Fit
pub mod inner

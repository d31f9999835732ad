pub mod Segments
pub mod Curve
pub mod Lists
pub mod Formulas
pub mod Kinds
pub mod Runs
pub mod inner

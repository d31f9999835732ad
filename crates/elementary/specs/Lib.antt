pub mod WholePower
pub mod Powers
pub mod Horner
pub mod Exp
pub mod Ln
pub mod Power
pub mod inner

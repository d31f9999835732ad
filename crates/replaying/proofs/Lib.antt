pub mod Agreeing
pub mod Words
pub mod OneToOne
pub mod Tight

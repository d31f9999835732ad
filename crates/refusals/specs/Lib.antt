pub mod Outcome
pub mod Table
pub mod Answers
pub mod Places

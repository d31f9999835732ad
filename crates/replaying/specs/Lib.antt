pub mod Words
pub mod Agreement
pub mod Answered

pub mod Rooms
pub mod Portions
pub mod Columns
pub mod Places
pub mod Laying
pub mod Pairs
pub mod Calls
pub mod Repaying

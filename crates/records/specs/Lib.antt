pub mod Bytes
pub mod Fields
pub mod Kinds
pub mod OneNan
pub mod EndToEnd

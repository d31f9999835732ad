pub mod Bytes
pub mod FieldLists
pub mod Dates
pub mod Judged
pub mod RoundTrip
pub mod Exactly
pub mod Tight
pub mod EndToEnd

pub mod Speed
pub mod Loans
pub mod Months
pub mod Totals
pub mod Flows
pub mod Price
pub mod inner

pub mod Calendar
pub mod DayNumbers
pub mod Counts
pub mod Months
pub mod Periods
pub mod Answers
pub mod DayLists
pub mod inner

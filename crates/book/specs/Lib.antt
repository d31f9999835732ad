pub mod Book
pub mod inner
pub mod OneByOne

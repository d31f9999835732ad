-- What the helpers of this crate promise one another, and no public function: nothing here need be believed.
pub mod RoomRows
pub mod Coming
pub mod Laying
pub mod RowsToCome

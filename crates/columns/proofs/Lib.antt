-- Laws of numbers in fixed columns.
pub mod Laws
pub mod Five
pub mod RoundTrip
pub mod Rows
pub mod Parts

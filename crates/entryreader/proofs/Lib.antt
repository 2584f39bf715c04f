-- Laws of the numbers that the exported calls hand over.
pub mod Read
pub mod Coded
pub mod Reported
pub mod Demand1
pub mod Shortened
pub mod Opened
pub mod Archived

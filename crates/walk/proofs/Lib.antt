-- Why the walk over the table finds what a question asks.
pub mod Marks
pub mod Bridge
pub mod RightTable
pub mod Through
pub mod Still
pub mod Ended
pub mod Standing
pub mod Stepping
pub mod Decided
pub mod Counting
pub mod Finished
pub mod Cleared
pub mod Overs

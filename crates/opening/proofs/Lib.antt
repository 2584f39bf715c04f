-- The search for the least opening that loops, and what any result that meets the promise says.
pub mod Asked
pub mod Sought
pub mod Answered
pub mod Promised
pub mod Beside
pub mod Examples

-- Text added at the end of an input: what must come again.
pub mod Appended
pub mod Answered
pub mod ByTable

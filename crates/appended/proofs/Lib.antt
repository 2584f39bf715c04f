-- Text added at the end of an input: why it comes again.
pub mod Appended
pub mod Answered
pub mod ByTable
pub mod Examples

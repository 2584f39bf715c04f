-- What the calls for programs in other languages promise.
pub mod Codes
pub mod Opened
pub mod Archived

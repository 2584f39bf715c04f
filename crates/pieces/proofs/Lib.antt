-- Proofs of the readers of items, rows and choices.
pub mod Bytes
pub mod Storing
pub mod Beginning
pub mod Scanning
pub mod Growing
pub mod Finding

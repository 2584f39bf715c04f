-- Proofs of the writer of a sheet.
pub mod Numbers
pub mod Putting

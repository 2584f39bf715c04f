-- What the functions that look at a rule promise.
pub mod Act
pub mod Admission

-- Laws of the numbers that exported calls hand over.
pub mod Fitting

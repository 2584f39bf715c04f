-- Laws of the numbers that the exported call of the machine hands over.
pub mod Fitting

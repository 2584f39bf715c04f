-- The demands, over the contracts of the calls.
pub mod Demand1
pub mod Passing
pub mod Demand2
pub mod Demand3
pub mod Kept
pub mod Corrected
pub mod Restored
pub mod Output
pub mod Demands

-- What a grammar means on an input: the generalized TMG Recognition Schema (gTS).
pub mod Derivation
pub mod Examined
pub mod Reached
pub mod Table
pub mod Cells
pub mod Machine
pub mod Verdict
pub mod Handed
pub mod Cases
pub mod Line
pub mod Closed
pub mod Exported

-- Tables that are kept from call to call, and entries of which one byte was corrected.
pub mod Some
pub mod Differs
pub mod Kept
pub mod New
pub mod Range

-- Laws of the checker.
pub mod LineForm
pub mod Progress
pub mod Certificate
pub mod Relation
pub mod Lookup
pub mod EachLine
pub mod Exactly
pub mod Derived
pub mod CheckRefusals
pub mod Call
pub mod Examples
pub mod Written

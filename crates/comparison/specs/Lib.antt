-- Two inputs compared.
pub mod Between

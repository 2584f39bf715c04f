-- What the demands say of results that meet the calls' contracts.
pub mod Demands

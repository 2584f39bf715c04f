-- The promise of a verdict.
pub mod Verdict

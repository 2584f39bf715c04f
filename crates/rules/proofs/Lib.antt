-- The rules in the array, and what is admitted.
pub mod RuleWords
pub mod Admitted
pub mod Seeing

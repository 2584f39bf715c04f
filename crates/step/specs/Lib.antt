-- One step of the walk: what a cell says, and what the step does.
pub mod Codes
pub mod Step

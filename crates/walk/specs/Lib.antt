-- The walk over a table: what it answers, what its steps do, and what it promises.
pub mod Walk
pub mod Over

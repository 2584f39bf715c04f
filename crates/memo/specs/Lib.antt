-- The table engine: the promise of a question.
pub mod Answer
pub mod Ask

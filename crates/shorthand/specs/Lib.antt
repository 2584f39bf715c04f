-- The societies' shorthand: the lines of a text, and what `compile` promises.
pub mod Lines
pub mod Promise

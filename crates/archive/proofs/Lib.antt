-- Rows of cells become columns; the cells of a table are moved from one layout to the other; what any results that meet the promises say.
pub mod Refusing
pub mod Turning
pub mod Moving
pub mod Sums
pub mod Layouts
pub mod Tallied
pub mod Promised
pub mod Kept
pub mod Examples

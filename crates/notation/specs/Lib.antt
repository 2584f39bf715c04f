-- The societies' shorthand: texts, how they are read, what they mean, what they become.
pub mod Text
pub mod Form
pub mod Scan
pub mod Direct
pub mod Emit
pub mod Capitals
pub mod SheetOf
pub mod Judged

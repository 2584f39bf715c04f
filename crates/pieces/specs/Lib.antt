-- The pieces of a text of the shorthand: items, rows, choices.
pub mod Store
pub mod Piece

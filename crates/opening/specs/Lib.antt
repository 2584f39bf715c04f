-- The opening that already loops: what is promised, how it stands beside the verdict, and the search for it.
pub mod Opening
pub mod Beside
pub mod Seeking

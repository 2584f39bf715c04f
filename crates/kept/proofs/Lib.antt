-- Why a kept table may be asked over.
pub mod Some
pub mod Changed
pub mod Differing
pub mod Corrected
pub mod RightCells
pub mod Filled
pub mod Ranged
pub mod Either
pub mod FirstCells

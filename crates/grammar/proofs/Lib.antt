-- Laws of rule sheets.
pub mod HandedOn
pub mod Refusals
pub mod Ends
pub mod Header
pub mod Fitting
pub mod RuleLine
pub mod Words
pub mod Progress
pub mod Whole
pub mod Accepted
pub mod Held
pub mod Told
pub mod Text
pub mod Listed
pub mod Printed
pub mod Sheets
pub mod SheetRefusals

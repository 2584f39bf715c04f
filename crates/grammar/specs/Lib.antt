-- What a rule sheet holds, and how it is refused.
pub mod Refusal
pub mod Order
pub mod Rule
pub mod Sheet
pub mod Printing
pub mod Words
pub mod Numbers
pub mod Promise
pub mod Reading

-- What exported calls say of an answer.
pub mod Numbers

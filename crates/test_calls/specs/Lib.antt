-- What the calls for tests and benchmarks in other languages promise.
pub mod Numbers

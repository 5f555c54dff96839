pub mod Answers
pub mod Stored
pub mod StoredReader
pub mod Version

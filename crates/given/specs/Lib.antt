-- What is given to C.
pub mod Answers

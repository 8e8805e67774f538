-- What the private functions of `reduction` promise each other. It need not be believed, and no other crate cites it.
pub mod Steps
pub mod Passes
pub mod Keeping
pub mod Writing

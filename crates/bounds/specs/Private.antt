-- What the private functions of `bounds` promise each other. It need not be believed, and no other crate cites it.
pub mod Rows
pub mod Takes
pub mod Walks

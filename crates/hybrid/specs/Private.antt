-- What the private functions of `hybrid` promise each other. It need not be believed, and no other crate cites it.
pub mod Simes

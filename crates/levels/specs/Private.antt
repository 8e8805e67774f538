-- What the private functions of `levels` promise each other. It need not be believed, and no other crate cites it.
pub mod Listing
pub mod Listed
pub mod Leveling
pub mod Ordering
pub mod Writing
pub mod Judging

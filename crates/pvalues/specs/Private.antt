-- What the private functions of `pvalues` promise each other. It need not be believed, and no other crate cites it.
pub mod Ordering
pub mod Lowering
pub mod Climbing
pub mod Writing
pub mod Judging

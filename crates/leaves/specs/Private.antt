-- What the private functions of `leaves` promise each other. It need not be believed, and no other crate cites it.
pub mod Walking

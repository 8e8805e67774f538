-- What the private functions of `reader` promise each other. It need not be believed, and no other crate cites it.
pub mod InPlace
pub mod Climb

-- What the private functions of the program promise each other. It need not be believed, and no other crate cites it.
pub mod Reading

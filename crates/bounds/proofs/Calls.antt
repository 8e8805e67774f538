-- What the causes of a path, of a selection and of a list of selections say, and what the calls answer and write.
pub mod Selecting
pub mod PathLaws
pub mod FirstRepeat
pub mod SelectionCalls
pub mod ListLaws
pub mod ListCalls
pub mod Answering

-- In the order to read them in.
pub mod ArgumentLists
pub mod AtomLaws

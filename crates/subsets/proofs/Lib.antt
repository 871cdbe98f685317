-- In the order in which they build on each other.
pub mod Bits
pub mod Refuting
pub mod Numbers
pub mod Masks
pub mod Patterns
pub mod Choosing
pub mod Marking
pub mod SeenPairs
pub mod Left

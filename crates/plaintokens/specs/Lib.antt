-- In the order to read them in; the last three are proofs' tools and no promises.
pub mod Put
pub mod Promise
pub mod Neighbours
pub mod PlainTokens
pub mod PlainText

pub mod Standing
pub mod Ahead
pub mod Ends
pub mod HeadPlaces
pub mod Arrivals

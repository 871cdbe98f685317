pub mod Digits
pub mod Proper
pub mod Ends
pub mod Again
pub mod Inside
pub mod Theorems

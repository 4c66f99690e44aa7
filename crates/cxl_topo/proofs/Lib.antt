pub mod Trees
pub mod Bridges
pub mod NameKeys
pub mod Entering
mod ChildPlaces
mod EndpointNames
pub mod PathsUp
pub mod Sound
pub mod PathSteps
pub mod Judged
pub mod Earlier
pub mod There
pub mod Legal
pub mod Fitting
pub mod Leading
pub mod PathsDown
pub mod Finding
pub mod Decoding

pub mod ThirdsAndPowers
pub mod RawBits
pub mod ParityTurns
pub mod ParitySums
pub mod MapTests

pub mod ExamplesTests
pub mod ExamplesRegions
pub mod ExamplesSystems

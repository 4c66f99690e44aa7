pub mod ExampleBytes
pub mod ExamplePieces
pub mod ExampleMedia
pub mod ExampleFlat

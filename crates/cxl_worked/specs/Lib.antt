pub mod Examples
pub mod ExampleRegions
pub mod ExamplePlans
pub mod ExampleLayouts
pub mod ExampleContents
pub mod ExampleRanges

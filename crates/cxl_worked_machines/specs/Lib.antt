pub mod Examples
pub mod ExamplePlans

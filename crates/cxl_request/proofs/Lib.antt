mod EndpointNames
mod Lines
mod Tellings

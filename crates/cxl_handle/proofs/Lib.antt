mod RawBoxes
mod Handles
mod Holding
mod Opened
mod Rooms
mod Lines
mod Loads
mod Unopened

pub mod Statuses
mod Endings
mod Steps
mod Parents
mod Places
mod Groups

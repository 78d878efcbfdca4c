pub mod Extends
mod Faithful
mod Seen
mod Turned
mod Whole
mod Widths

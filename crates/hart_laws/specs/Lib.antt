pub mod Harts

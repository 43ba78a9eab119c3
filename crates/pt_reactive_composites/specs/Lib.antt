pub mod Timed

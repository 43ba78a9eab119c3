pub mod Sites
pub mod Standing
pub mod Tables
pub mod Laws
pub mod Written

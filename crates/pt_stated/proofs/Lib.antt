mod Counts
mod Lawful
mod Held
mod Stating

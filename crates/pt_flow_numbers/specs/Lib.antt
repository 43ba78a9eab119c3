pub mod AbsoluteValue
pub mod Accumulator
pub mod AddSubtract
pub mod Extreme
pub mod MultiplyDivide
pub mod Ramp
pub mod Scale
pub mod Counter

pub mod Joined
pub mod Standing
pub mod Table
pub mod Wires
pub mod Joints
pub mod Net
pub mod Stands
pub mod Inside

pub mod Expression
pub mod FlowActor
pub mod Laws

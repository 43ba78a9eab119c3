mod Parts
pub mod SmallLaws
pub mod DataflowExamples
pub mod UnfedExamples
pub mod NetworkExamples
pub mod TickExamples
pub mod EventExamples
pub mod RendezvousExamples
pub mod ModalExamples
pub mod EdgeExamples
pub mod NestingExamples
pub mod JamExample
pub mod ReportExample
pub mod WrongReportsExamples
pub mod ClosedLogsExamples
pub mod UnlawfulExamples

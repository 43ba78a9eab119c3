pub mod GivenLogs
pub mod OwnPath
pub mod GivenSteps
pub mod GivenRuns

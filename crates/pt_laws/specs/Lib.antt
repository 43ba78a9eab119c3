-- The statements of the laws: README.md says which are the main ones.
-- Fuel, rounds, valuations, runs in any order, meetings.
pub mod Promises
pub mod PromisesOfOrder
pub mod Schemes
pub mod Heights
pub mod Uniqueness
pub mod Outcomes
-- Runs of composites, and their logs.
pub mod LogsOfRuns
pub mod CompositeRuns
pub mod SettledRuns
pub mod CutLaw
pub mod TickRuns
pub mod CompositeTicks
pub mod MeetingRuns
-- Closed logs.
pub mod Channels
pub mod SoundRuns
pub mod Explained
pub mod PlacesTold
pub mod ClosedRuns
pub mod WholeRuns
pub mod StartedRuns

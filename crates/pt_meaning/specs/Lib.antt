-- The definitions that the contracts of the runner cite: README.md gives the order in which to read them.
-- Values of time and of streams, and what a run leaves behind.
pub mod Tag
pub mod Streams
pub mod Log
pub mod Basics
-- Actors and the inside of composites.
pub mod Machine
pub mod Flow
pub mod Net
-- Directors.
pub mod Rounds
pub mod Kahn
pub mod Sdf
pub mod Pn
pub mod Dataflow
pub mod Valuation
pub mod Sr
pub mod De
pub mod Tick
pub mod Modal
pub mod Transitions
pub mod Process
pub mod Meetings
pub mod Rendezvous
-- The whole.
pub mod Children
pub mod Tree
pub mod NodeFacts
pub mod Step
pub mod Node
pub mod Start
pub mod Job
pub mod Schedule
-- The words of laws, and what a library of actors owes.
pub mod Laws
pub mod Lawful
-- Means for engines.
pub mod Running
pub mod Places
pub mod Jam
pub mod AnyOrder
pub mod Asked
-- What a report promises.
pub mod Closed
pub mod Headline

-- What the processes of a composite owe, and what holds of a core between two firings.
use Rattle.std.specs.Prelude.{◌≡◌, ℕ, ◌<◌, List, length, map, get_or, Some}
use Rattle.pt_meaning.specs.Streams.{get}
use Rattle.pt_meaning.specs.Machine.{Need, Over, Counts, Any, Facts}
use Rattle.pt_meaning.specs.Net.{Own}
use Rattle.pt_meaning.specs.Rendezvous.{outlets}
use Rattle.pt_laws.specs.SoundRuns.{HasRooms, count_at}
use Rattle.pt_rv_laws.specs.State.{Processes, RvState, net_of}

-- It is told of each process whether it is a Barrier and what it needs at its start, and each own input at which a channel begins is there.
pub record IsLawful (p : Processes) : Type 0 where
  pub barriers : length p.plan.barriers ≡ length p.plan.net.places
  pub starts : length p.starts ≡ length p.plan.net.places
  pub owns : (channel port : ℕ) → get p.plan.net.sources channel ≡ Some (Own port) → port < length p.plan.takes

-- its lists have an entry for each process, and for each place of one
pub record IsSized {T : Type 0} (s : RvState T) : Type 0 where
  pub got : length s.places.got ≡ length (net_of s).places
  pub puts : length s.places.puts ≡ length (net_of s).places
  pub needs : length s.needs ≡ length (net_of s).places
  pub rooms : HasRooms (net_of s) s.places

-- a process with so many places needs a count for each of them, or a token from any, or is over
abbrev pub HasPlaces : ℕ → Need → Type 0
HasPlaces places Over = Unit {0}
HasPlaces places (Counts ns) = length ns ≡ places
HasPlaces places Any = Unit {0}

abbrev pub AllCount : {T : Type 0} → RvState T → Type 0
AllCount s = (i : ℕ) → i < length (net_of s).places → HasPlaces (count_at (net_of s).places i) (get_or s.needs i Over)

-- A core fits its processes while no firing is under way: it knows what each needs, and nothing is at the own outputs.
pub record IsFor {T S : Type 0} (facts : Facts T S) (s : RvState T) (kids : List S) : Type 0 where
  pub lawful : IsLawful s.processes
  pub sized : IsSized s
  pub needs : s.needs ≡ map (λ c. facts.need c) kids
  pub counts : AllCount s
  pub none : s.outputs ≡ outlets (net_of s).places (net_of s).sources

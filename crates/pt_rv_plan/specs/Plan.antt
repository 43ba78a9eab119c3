-- What the code's plan is among the definitions, and its tables: where the places of each process begin, which channels begin at each source, and where each channel ends.
use Rattle.std.specs.Prelude.{◌≡◌, ℕ, ◌^◌, ◌<◌, List, [], ◌++◌, length, map, get_or, Some}
use Rattle.std.specs.List.{All}
use Rattle.pt_meaning.specs.Streams.{get}
use Rattle.pt_meaning.specs.Machine.{Over}
use Rattle.pt_meaning.specs.Net as net
use Rattle.pt_meaning.specs.Meetings as meetings
use Rattle.pt_meaning.specs.Process.{channels_from, listed_if, is_source}
use Rattle.pt_core.specs.declared.source.Source.{Source}
use Rattle.pt_core.specs.Source.{source_of}
use Rattle.pt_reaction.specs.Offsets.{begins}
use Rattle.pt_puts.specs.Fans.{IsNamed, fan_at, fans_in}
use Rattle.pt_rv_laws.specs.State.{Processes}
use Rattle.pt_rv_laws.specs.Lawful.{IsLawful, HasPlaces}
use Rattle.pt_rv_plan.specs.declared.plan.CorePlan.{CorePlan}
use Rattle.pt_rv_plan.specs.declared.rv_plan.Plan.TheInside.{Inside}
use Rattle.pt_rv_plan.specs.declared.targets.Target.{Target}
use Rattle.pt_rv_plan.specs.declared.targets.Target.TheVariants.{Place, Outlet}
use Rattle.pt_puts.specs.Need.{need_in}

abbrev pub processes_of : CorePlan → Processes
processes_of p = record {
  plan = record { net = record { sources = map source_of p.sources.items; places = p.places }; barriers = p.barriers.items; takes = p.takes };
  starts = map need_in p.starts.items;
}

-- two plans are the same, list by list
pub record IsSamePlan (p q : CorePlan) : Type 0 where
  pub sources : q.sources.items ≡ p.sources.items
  pub places : q.places ≡ p.places
  pub barriers : q.barriers.items ≡ p.barriers.items
  pub takes : q.takes ≡ p.takes
  pub starts : q.starts.items ≡ p.starts.items

-- Processes that a core may have: they are lawful, processes and channels have numbers of 32 bits, channels begin at what is there, and each process needs a count for each of its places, a token from any, or nothing more.
pub record AreSound (p : Processes) : Type 0 where
  pub lawful : IsLawful p
  pub few : length p.plan.net.sources < 2 ^ 32
  pub fewer : length p.plan.net.places < 2 ^ 32
  pub named : All (IsNamed (length p.plan.net.places)) p.plan.net.sources
  pub counts : (i : ℕ) → i < length p.plan.net.places → HasPlaces (get_or p.plan.net.places i 0) (get_or p.starts i Over)

-- the row and the place of a source in a table with a row for each of n processes, and one for the own inputs
abbrev pub row_of : ℕ → net.Source → ℕ
row_of n (net.Own port) = n
row_of n (net.Output child port) = child

abbrev pub port_of : net.Source → ℕ
port_of (net.Own port) = port
port_of (net.Output child port) = port

-- of each source the channels that begin there
abbrev pub AreFans : ℕ → List net.Source → List (List (List ℕ)) → Type 0
AreFans n sources fans = (s : net.Source) → IsNamed n s → fan_at fans (row_of n s) (port_of s) ≡ channels_from 0 s sources

-- the same once channel c is noted, which begins at source d
abbrev pub FansMore : ℕ → net.Source → ℕ → List (List (List ℕ)) → List (List (List ℕ)) → Type 0
FansMore n d c before after = (s : net.Source) → IsNamed n s → fan_at after (row_of n s) (port_of s) ≡ fan_at before (row_of n s) (port_of s) ++ listed_if (is_source s d) c []

-- where a channel ends, among the definitions
abbrev pub target_of : Target → meetings.Target
target_of (Place child place) = meetings.Place child place
target_of (Outlet outlet) = meetings.Outlet outlet

-- of each of so many channels where it ends
abbrev pub AreTargets : List ℕ → (channels : ℕ) → List Target → Type 0
AreTargets places channels targets = (c : ℕ) → c < channels → get (map target_of targets) c ≡ Some (meetings.target_from 0 places c)

abbrev pub seen_plan : Inside → Processes
seen_plan p = processes_of p.plan

-- a sound plan keeps its tables
pub record IsSound (p : Inside) : Type 0 where
  pub sound : AreSound (processes_of p.plan)
  pub offsets : p.offsets.items ≡ begins 0 p.plan.places
  pub fans : AreFans (length p.plan.places) (map source_of p.plan.sources.items) (fans_in p.fans.items)
  pub targets : AreTargets p.plan.places (length p.plan.sources.items) p.targets.items

-- the channel begins there
abbrev pub IsSourceAt : Processes → ℕ → Source → Type 0
IsSourceAt p c s = get p.plan.net.sources c ≡ Some (source_of s)

-- What the composites of processes of a net state: process networks, and those whose processes meet (the book, "Process Networks and Rendezvous").
use Rattle.std.specs.Prelude.{◌≡◌, ℕ, List, map, Bool, true, nat_lt, nat_le, ◌&&◌, ◌||◌, Option, Some, None, slice_get, bytes_eq, codes, if◌then◌else◌}
use Rattle.std.specs.List.{list_all, enumerate_from}
use Rattle.pt_document.specs.declared.job.Direction.TheVariants.{Input, Output}
use Rattle.pt_document.specs.Document.{PortTree}
use Rattle.pt_net.specs.Net.{NetEntityTree, DirectorTree}
use Rattle.pt_scopes.specs.declared.values.EntityValues.{EntityValues}
use Rattle.pt_scopes.specs.declared.values.Values.{Values}
use Rattle.pt_scopes.specs.Scopes.{NetTree}
use Rattle.pt_stated.specs.declared.capacities.Capacities.{Capacities}
use Rattle.pt_stated.specs.declared.stated.Stated.{Stated}
use Rattle.pt_stated.specs.Numbers.{capacity, rates_along}

-- a composite of this director is a process network, whose channels hold tokens
abbrev pub is_network : DirectorTree → Bool
is_network d = bytes_eq d.class (codes "PN")

-- its children are processes: those of a network, or those that meet
abbrev pub has_processes : DirectorTree → Bool
has_processes d = is_network d || bytes_eq d.class (codes "Rendezvous")

-- the capacities of its channels, where it is a process network
abbrev pub capacities_of : DirectorTree → EntityValues → Option Capacities
capacities_of d v =
    if is_network d then Some (record { initial = capacity d v.director.items (codes "initialQueueCapacity"); maximum = capacity d v.director.items (codes "maximumQueueCapacity") }) else None

-- the numbers of a composite with this director and these ports
abbrev pub numbers_of : DirectorTree → List PortTree → EntityValues → Stated
numbers_of d ports v =
    record { takes = rates_along Input ports v.rates.items; gives = rates_along Output ports v.rates.items; capacities = capacities_of d v }

-- there is room for a token in each channel, and the initial capacity is at most the maximum one
abbrev pub are_lawful : Option Capacities → Bool
are_lawful None = true
are_lawful (Some c) = nat_lt 0 c.initial && nat_le c.initial c.maximum

-- the capacities are lawful, where there are some, and each rate is 1 or more
abbrev pub is_lawful : Stated → Bool
is_lawful s = are_lawful s.capacities && list_all (nat_lt 0) s.takes && list_all (nat_lt 0) s.gives

abbrev pub lawful : Stated → Option Stated
lawful s = if is_lawful s then Some s else None

abbrev pub stated_by : Option DirectorTree → List PortTree → Option EntityValues → Option Stated
stated_by None ports v = None
stated_by (Some d) ports None = None
stated_by (Some d) ports (Some v) = if has_processes d then lawful (numbers_of d ports v) else None

-- what the entity of this number states, where its children are processes and what it states is lawful
abbrev pub stated_of : Values → ℕ → NetEntityTree → Option Stated
stated_of values k e = stated_by e.director e.ports (slice_get values.entities.items k)

-- for each entity what it states
abbrev pub stated_among : Values → List NetEntityTree → List (Option Stated)
stated_among values entities = map (λ q. stated_of values q.0 q.1) (enumerate_from 0 entities)

abbrev pub AreStated : NetTree → Values → List (Option Stated) → Type 0
AreStated net values stated = stated ≡ stated_among values net.entities

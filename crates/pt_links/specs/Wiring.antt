-- The wires of a job as the program holds them, and what its tests find.
use Rattle.std.specs.Prelude.{◌≡◌, ◌≢◌, ℕ, ◌<◌, ◌≤◌, List, [], length, Bool, IsTrue, ◌&&◌, ◌||◌, ◌==◌, nat_lt, ◌-◌, ◌^◌, min, take, slice_index, Some, None, slice_get}
use Rattle.std.specs.List.{All, Contains}
use Rattle.pt_links.specs.declared.wiring.Wiring.{Wiring}
use Rattle.pt_net.specs.Table.{PortAt, LinkAt, Tables, ports_of}
use Rattle.pt_document.specs.Document.{parts}
use Rattle.pt_survey.specs.Survey.{tables_view}
use Rattle.pt_net.specs.Wires.{wire_of, is_input, outside_of, inside_of}
use Rattle.pt_links.specs.Ties.{IsWithin, AreTied}
use Rattle.pt_net.specs.Net.{wires}
use Rattle.pt_net.specs.Stands.{is_single, is_many, needs_link, needs_link_inside, least_channels, channels_in}
use Rattle.pt_net.specs.Standing.{Standing}

-- each link names what is there
abbrev pub AllNamed : Tables → Type 0
AllNamed t = (l : LinkAt) → Contains t.links l → wire_of t.ports t.relations l ≢ None

-- a port is one of those of an entity, which is one of so many
abbrev pub IsOwned : ℕ → PortAt → Type 0
IsOwned n p = (p.entity < n) × Contains (ports_of (parts p.standing.tree)) p.port

abbrev pub AreOwned : Tables → Type 0
AreOwned t = All (IsOwned (length t.entities)) t.ports

-- no actor has fewer channels than its class says
abbrev pub HaveChannels : Tables → Type 0
HaveChannels t = (e : ℕ) (s : Standing) → slice_get t.entities e ≡ Some s → least_channels s ≤ channels_in t.ports (wires t) e

-- these are the wires of the tables, and the relations at each of their ports
pub record AreWires (t : Tables) (w : Wiring) : Type 0 where
  pub owned : AreOwned t
  pub wires_are : w.wires.items ≡ wires t
  pub within : All (IsWithin (length t.ports) (length t.relations)) (wires t)
  pub tied : AreTied (length t.ports) (wires t) w.ties.outside.items w.ties.inside.items

abbrev pub IsWiring : Wiring → Type 0
IsWiring w = AreWires (tables_view w.tables.now) w

-- the links of a port are as its class and its entity ask for
pub record IsFine (t : Tables) (g : ℕ) (p : PortAt) : Type 0 where
  pub single : IsTrue (is_single p) → length (outside_of (wires t) g) ≤ 1
  pub single_inside : length (inside_of (wires t) g) ≤ 1
  pub linked : IsTrue (needs_link p) → outside_of (wires t) g ≢ []
  pub linked_inside : IsTrue (needs_link_inside p) → inside_of (wires t) g ≢ []
  pub has_channel : IsTrue (is_input p) → IsTrue (is_many p) → outside_of (wires t) g ≢ []

-- the same of each port
abbrev pub AreFine : Tables → Type 0
AreFine t = (g : ℕ) (p : PortAt) → slice_get t.ports g ≡ Some p → IsFine t g p

-- a port with so many links outside and inside lacks one
abbrev pub lacks_link : PortAt → ℕ → ℕ → Bool
lacks_link p outside inside = (needs_link p && outside == 0) || (needs_link_inside p && inside == 0)

-- a port with so many links outside and inside lacks one, or has too many
abbrev pub is_amiss : PortAt → ℕ → ℕ → Bool
is_amiss p outside inside = (is_single p && nat_lt 1 outside) || nat_lt 1 inside || lacks_link p outside inside

-- a multiport with so many links has too few
abbrev pub lacks_channel : PortAt → ℕ → Bool
lacks_channel p outside = is_input p && is_many p && outside == 0

-- the channels to the inputs of each entity among the first n ports, up to the greatest number that a count can have
pub record AreCounts (t : Tables) (n : ℕ) (counts : List ℕ) : Type 0 where
  pub each : length counts ≡ length t.entities
  pub count : (e : ℕ) → e < length t.entities → slice_index counts e ≡ min (channels_in (take n t.ports) (wires t) e) (2 ^ 64 - 1)

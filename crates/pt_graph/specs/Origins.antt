-- The source of each relation.
use Rattle.std.specs.Prelude.{◌≡◌, ℕ, ◌<◌, List, [], ◌∷◌, ◌++◌, length, true, Option, Some, None, IsSome, if◌then◌else◌, slice_index, slice_index_or}
use Rattle.std.specs.List.{Contains, flat_map, filter_map, enumerate_from}
use Rattle.pt_net.specs.declared.wire.Wire.{Wire}
use Rattle.pt_graph.specs.declared.origins.Origins.{Origins}
use Rattle.pt_net.specs.Standing.{is_kept}
use Rattle.pt_net.specs.Table.{PortAt, Tables}
use Rattle.pt_net.specs.Joined.{IsGrouping}
use Rattle.pt_net.specs.Wires.{outside_of, inside_of, AreJoined, IsSource}
use Rattle.pt_net.specs.Net.{wires}
use Rattle.pt_graph.specs.Sources.{bond_of, gifts}
use Rattle.pt_survey.specs.Survey.{tables_view}
use Rattle.pt_links.specs.Wiring.{IsWiring, AreFine}

-- the first of each of two lists, where both have one
abbrev pub first_pair : List ℕ → List ℕ → List (ℕ × ℕ)
first_pair [] bs = []
first_pair (a ∷ as') [] = []
first_pair (a ∷ as') (b ∷ bs) = (a, b) ∷ []

-- the relations that a port of a transparent composite joins
abbrev pub crossing : List Wire → ℕ × PortAt → List (ℕ × ℕ)
crossing ws q = if is_kept q.1.standing then [] else first_pair (outside_of ws q.0) (inside_of ws q.0)

abbrev pub crossings_among : List Wire → List PortAt → List (ℕ × ℕ)
crossings_among ws ports = flat_map (crossing ws) (enumerate_from 0 ports)

-- all that joins relations
abbrev pub ways : Tables → List (ℕ × ℕ)
ways t = filter_map bond_of (wires t) ++ crossings_among (wires t) t.ports

-- this port is a source that is joined with this relation
pub record IsSourceOf (t : Tables) (r g : ℕ) : Type 0 where
  pub at : PortAt
  pub relation : ℕ
  pub source : IsSource t.ports (wires t) g at relation
  pub joined : AreJoined t.ports (wires t) relation r

-- no source is joined with this relation
abbrev pub HasNoSource : Tables → ℕ → Type 0
HasNoSource t r = (g : ℕ) → IsSourceOf t r g → ⊥

-- the table has the giver of one of the first gifts for each class that has any
pub record AreOrigins (count i : ℕ) (class : List ℕ) (given : List (ℕ × ℕ)) (origins : List (Option ℕ)) : Type 0 where
  pub each : length origins ≡ count
  pub sound : (c g : ℕ) → slice_index_or origins c None ≡ Some g → (s : ℕ) × Contains given (g, s) × (slice_index class s ≡ c)
  pub complete : (k : ℕ) → k < i → IsSome (slice_index_or origins (slice_index class (slice_index_or given k (0, 0)).1) None)

-- the classes of relations that are joined, and the source of each class
pub record AreOriginsOf (t : Tables) (o : Origins) : Type 0 where
  pub wiring : IsWiring o.wiring.now
  pub fine : AreFine t
  pub classes : IsGrouping (length t.relations) (ways t) o.class.items
  pub origins : AreOrigins (length t.relations) (length (gifts t true)) o.class.items (gifts t true) o.sources.items

abbrev pub AreTrue : Origins → Type 0
AreTrue o = AreOriginsOf (tables_view o.wiring.now.tables.now) o

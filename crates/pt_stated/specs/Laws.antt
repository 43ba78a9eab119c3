-- Laws of what the composites of processes of a net state.
use Rattle.std.specs.Prelude.{◌≡◌, ℕ, ◌<◌, ◌≤◌, length, filter, not, Bool, true, false, IsTrue, Option, Some, None, slice_get}
use Rattle.std.specs.List.{All}
use Rattle.pt_net.specs.Net.{NetEntityTree, DirectorTree}
use Rattle.pt_scopes.specs.declared.values.Values.{Values}
use Rattle.pt_scopes.specs.Scopes.{NetTree}
use Rattle.pt_scopes.specs.Sites.{is_input_port}
use Rattle.pt_scopes.specs.Valued.{IsValued}
use Rattle.pt_stated.specs.declared.capacities.Capacities.{Capacities}
use Rattle.pt_stated.specs.declared.stated.Stated.{Stated}
use Rattle.pt_stated.specs.Networks.{is_network, has_processes, stated_of}

-- a rate is a number from 1 to 1,000,000
pub record IsRate (n : ℕ) : Type 0 where
  pub least : 1 ≤ n
  pub most : n ≤ 1000000

-- there is room for a token in each channel, and the initial capacity is at most the maximum one, which is 1,000,000 at most
pub record AreCapacities (c : Capacities) : Type 0 where
  pub room : 0 < c.initial
  pub ordered : c.initial ≤ c.maximum
  pub bounded : c.maximum ≤ 1000000

-- capacities are stated of a network and of no other composite
abbrev pub AreCapacitiesIf : (network : Bool) → Option Capacities → Type 0
AreCapacitiesIf true None = ⊥
AreCapacitiesIf true (Some c) = AreCapacities c
AreCapacitiesIf false None = Unit {0}
AreCapacitiesIf false (Some c) = ⊥

-- there is a rate for each own input and for each own output, and capacities where the entity is a process network
pub record IsLawful (e : NetEntityTree) (s : Stated) : Type 0 where
  pub takes : All IsRate s.takes
  pub gives : All IsRate s.gives
  pub inputs : length s.takes ≡ length (filter is_input_port e.ports)
  pub outputs : length s.gives ≡ length (filter (λ p. not (is_input_port p)) e.ports)
  pub capacities : (d : DirectorTree) → e.director ≡ Some d → AreCapacitiesIf (is_network d) s.capacities

-- what is stated is lawful
abbrev pub StatedIsLawful : Type 0
StatedIsLawful = (values : Values) (k : ℕ) (e : NetEntityTree) (s : Stated) → stated_of values k e ≡ Some s → IsLawful e s

-- where the texts of a net come to these values, each composite of processes states its numbers
abbrev pub ProcessesAreStated : Type 0
ProcessesAreStated =
    (net : NetTree) (values : Values) → IsValued net values → (k : ℕ) (e : NetEntityTree) (d : DirectorTree) → slice_get net.entities k ≡ Some e → e.director ≡ Some d → IsTrue (has_processes d) → (s : Stated) × (stated_of values k e ≡ Some s)

-- What gives tokens to which relations, as a list, and who gives to a group.
use Rattle.std.specs.Prelude.{◌≡◌, ◌≢◌, ℕ, ◌<◌, List, [], map, length, Bool, not, ◌||◌, Option, Some, None, if◌then◌else◌, slice_index, slice_index_or}
use Rattle.std.specs.List.{Contains, flat_map, enumerate_from}
use Rattle.pt_net.specs.declared.wire.Wire.{Wire}
use Rattle.pt_net.specs.declared.wire.Wire.TheVariants.{Outside, Inside, Bond}
use Rattle.pt_net.specs.Standing.{is_kept}
use Rattle.pt_net.specs.Table.{PortAt, Tables}
use Rattle.pt_net.specs.Wires.{given_to, Gives, IsOneGroup}
use Rattle.pt_net.specs.Net.{wires}

-- the relations to which a port gives tokens, if its entity stays in the net or that isn't asked for
abbrev pub giving : List Wire → Bool → ℕ × PortAt → List ℕ
giving ws kept_only q = if not kept_only || is_kept q.1.standing then given_to ws q.0 q.1 else []

-- each of these ports with each relation to which it gives tokens
abbrev pub gifts_among : List Wire → Bool → List PortAt → List (ℕ × ℕ)
gifts_among ws kept_only ports = flat_map (λ q. map (λ r. (q.0, r)) (giving ws kept_only q)) (enumerate_from 0 ports)

abbrev pub gifts : Tables → Bool → List (ℕ × ℕ)
gifts t kept_only = gifts_among (wires t) kept_only t.ports

-- the relations that a wire links to each other
abbrev pub bond_of : Wire → Option (ℕ × ℕ)
bond_of (Outside p r) = None
bond_of (Inside p r) = None
bond_of (Bond a b) = Some (a, b)

-- no relation group has two sources
abbrev pub HaveOneSource : Tables → Type 0
HaveOneSource t = (g : ℕ) (p : PortAt) (a : ℕ) (h : ℕ) (q : PortAt) (b : ℕ) → Gives t.ports (wires t) g p a → Gives t.ports (wires t) h q b → IsOneGroup (wires t) a b → g ≡ h

-- one port at most gives to each group
abbrev pub HasOneGiver : List ℕ → List (ℕ × ℕ) → Type 0
HasOneGiver group given = (g r h s : ℕ) → Contains given (g, r) → Contains given (h, s) → slice_index group r ≡ slice_index group s → g ≡ h

-- two ports give to the group of this relation
pub record HasTwoGivers (group : List ℕ) (given : List (ℕ × ℕ)) (relation : ℕ) : Type 0 where
  pub first : ℕ
  pub second : ℕ
  pub other : ℕ
  pub gives_first : Contains given (first, relation)
  pub gives_second : Contains given (second, other)
  pub together : slice_index group relation ≡ slice_index group other
  pub apart : first ≢ second

-- the table has a giver for each group of the first gifts, and no others
pub record AreGivers (count i : ℕ) (group : List ℕ) (given : List (ℕ × ℕ)) (givers : List (Option ℕ)) : Type 0 where
  pub each : length givers ≡ count
  pub sound : (c g : ℕ) → slice_index_or givers c None ≡ Some g → (s : ℕ) × Contains given (g, s) × (slice_index group s ≡ c)
  pub complete : (k : ℕ) → k < i → slice_index_or givers (slice_index group (slice_index_or given k (0, 0)).1) None ≡ Some (slice_index_or given k (0, 0)).0

-- What the links of a job join: ports and relations, by their numbers in the document.
use Rattle.std.specs.Prelude.{◌≡◌, ℕ, ◌+◌, List, [], ◌∷◌, ◌++◌, Bool, true, false, IsTrue, not, ◌&&◌, ◌==◌, Option, Some, None, if◌then◌else◌, bytes_eq, codes, slice_get, position}
use Rattle.std.specs.List.{filter_map, flat_map, enumerate_from, Contains}
use Rattle.std.specs.Option.{option_eq}
use Rattle.pt_document.specs.declared.job.Direction.{Direction}
use Rattle.pt_document.specs.declared.job.Direction.TheVariants.{Input, Output}
use Rattle.pt_document.specs.declared.job.Link.{Link}
use Rattle.pt_document.specs.declared.job.Link.TheVariants as link
use Rattle.pt_document.specs.Document.{entity_name}
use Rattle.pt_net.specs.declared.wire.Wire.{Wire}
use Rattle.pt_net.specs.declared.wire.Wire.TheVariants.{Outside, Inside, Bond}
use Rattle.pt_net.specs.Standing.{is_kept}
use Rattle.pt_net.specs.Table.{PortAt, RelationAt, LinkAt}
use Rattle.pt_net.specs.Joined.{Joined}

-- in this composite the text is that of an own port, seen from inside
abbrev pub names_inside : ℕ → List ℕ → PortAt → Bool
names_inside c text p = (c == p.entity) && bytes_eq text p.port.name

-- in this composite the text is that of a child's port, seen from outside: the child, a dot and the port
abbrev pub names_outside : ℕ → List ℕ → PortAt → Bool
names_outside c text p = option_eq ◌==◌ (Some c) p.standing.round.outer && bytes_eq text (entity_name p.standing.tree ++ codes "." ++ p.port.name)

-- in this composite the text is that of a relation
abbrev pub names_relation : ℕ → List ℕ → RelationAt → Bool
names_relation c text r = (c == r.composite) && bytes_eq text r.name

-- the side of a port and its number that a text names
abbrev pub end_of_text : Option ℕ → Option ℕ → Option (ℕ → Wire)
end_of_text (Some g) outside = Some (λ r. Inside g r)
end_of_text None (Some g) = Some (λ r. Outside g r)
end_of_text None None = None

abbrev pub joined_at : Option (ℕ → Wire) → Option ℕ → Option Wire
joined_at (Some wire) (Some r) = Some (wire r)
joined_at (Some wire) None = None
joined_at None r = None

abbrev pub bonded_at : Option ℕ → Option ℕ → Option Wire
bonded_at (Some first) (Some second) = Some (Bond first second)
bonded_at (Some first) None = None
bonded_at None second = None

module _ (ports : List PortAt) (relations : List RelationAt) where
  -- the relation that a text names in this composite
  abbrev pub relation_named : ℕ → List ℕ → Option ℕ
  relation_named c text = position (names_relation c text) relations

  -- what a link of this composite joins, where it names what is there
  abbrev pub wire_between : ℕ → Link → Option Wire
  wire_between c (link.Port port relation) =
      joined_at (end_of_text (position (names_inside c port) ports) (position (names_outside c port) ports)) (relation_named c relation)
  wire_between c (link.Relations first second) = bonded_at (relation_named c first) (relation_named c second)

  abbrev pub wire_of : LinkAt → Option Wire
  wire_of l = wire_between l.composite l.link

-- ---- the relations at each port

abbrev pub relation_outside : ℕ → Wire → Option ℕ
relation_outside g (Outside p r) = if g == p then Some r else None
relation_outside g (Inside p r) = None
relation_outside g (Bond first second) = None

abbrev pub relation_inside : ℕ → Wire → Option ℕ
relation_inside g (Inside p r) = if g == p then Some r else None
relation_inside g (Outside p r) = None
relation_inside g (Bond first second) = None

-- the relations to which a port is linked from outside, in the order of the links
abbrev pub outside_of : List Wire → ℕ → List ℕ
outside_of wires g = filter_map (relation_outside g) wires

-- the relations to which a port is linked from inside
abbrev pub inside_of : List Wire → ℕ → List ℕ
inside_of wires g = filter_map (relation_inside g) wires

abbrev pub is_inward : Direction → Bool
is_inward Input = true
is_inward Output = false

abbrev pub is_input : PortAt → Bool
is_input p = is_inward p.port.direction

-- the relations from which a port takes tokens: an input from outside, an output from inside
abbrev pub taken_from : List Wire → ℕ → PortAt → List ℕ
taken_from wires g p = if is_input p then outside_of wires g else inside_of wires g

-- the relations to which a port gives tokens: an input inside, an output outside
abbrev pub given_to : List Wire → ℕ → PortAt → List ℕ
given_to wires g p = if is_input p then inside_of wires g else outside_of wires g

-- ---- what is joined

-- two relations are linked to each other
abbrev pub Bonded : List Wire → ℕ → ℕ → Type 0
Bonded wires a b = Contains wires (Bond a b)

-- two relations are in one group
abbrev pub IsOneGroup : List Wire → ℕ → ℕ → Type 0
IsOneGroup wires = Joined (Bonded wires)

-- two relations are linked to each other, or to the two sides of a port of a transparent composite
pub data Meets (ports : List PortAt) (wires : List Wire) : ℕ → ℕ → Type 0 where
  bonded : (a b : ℕ) → Contains wires (Bond a b) → Meets ports wires a b
  crossed : (g : ℕ) (p : PortAt) (a b : ℕ) → slice_get ports g ≡ Some p → IsTrue (not (is_kept p.standing)) → Contains (outside_of wires g) a → Contains (inside_of wires g) b → Meets ports wires a b

-- a path of links, relation groups and transparent composites joins two relations
abbrev pub AreJoined : List PortAt → List Wire → ℕ → ℕ → Type 0
AreJoined ports wires = Joined (Meets ports wires)

-- this port gives tokens to this relation: the output of a child, or an own input
pub record Gives (ports : List PortAt) (wires : List Wire) (g : ℕ) (p : PortAt) (r : ℕ) : Type 0 where
  pub port : slice_get ports g ≡ Some p
  pub linked : Contains (given_to wires g p) r

-- a source: a port of a library actor or an opaque composite that gives tokens to this relation
pub record IsSource (ports : List PortAt) (wires : List Wire) (g : ℕ) (p : PortAt) (r : ℕ) : Type 0 where
  pub kept : IsTrue (is_kept p.standing)
  pub gives : Gives ports wires g p r

-- ---- places

-- a place: a link at which a port of a library actor or an opaque composite takes tokens from a relation. The number of the
-- port, the port, the number of the link among those of the port, and the relation
pub record Place : Type 0 where
  pub port : ℕ
  pub at : PortAt
  pub index : ℕ
  pub relation : ℕ

-- a place for each of these relations
abbrev pub places_along : ℕ → PortAt → ℕ → List ℕ → List Place
places_along g p k [] = []
places_along g p k (r ∷ rs) = record { port = g; at = p; index = k; relation = r } ∷ places_along g p (k + 1) rs

-- the places of a port
abbrev pub places_of : List Wire → ℕ × PortAt → List Place
places_of wires q = if is_kept q.1.standing then places_along q.0 q.1 0 (taken_from wires q.0 q.1) else []

abbrev pub input_places : List Wire → ℕ × PortAt → List Place
input_places wires q = if is_input q.1 then places_of wires q else []

abbrev pub output_places : List Wire → ℕ × PortAt → List Place
output_places wires q = if is_input q.1 then [] else places_of wires q

-- the places of a job in the order of their numbers: the inputs of children in the order of the document, port by port and
-- link by link, then the own outputs of composites
abbrev pub places : List PortAt → List Wire → List Place
places ports wires = flat_map (input_places wires) (enumerate_from 0 ports) ++ flat_map (output_places wires) (enumerate_from 0 ports)

-- this port is a source that a path joins with this place
pub record Reaches (ports : List PortAt) (wires : List Wire) (g : ℕ) (p : PortAt) (place : Place) : Type 0 where
  pub relation : ℕ
  pub source : IsSource ports wires g p relation
  pub joined : AreJoined ports wires relation place.relation

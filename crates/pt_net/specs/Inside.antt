-- The inside of each opaque composite of a net, in the numbers that its director uses.
use Rattle.std.specs.Prelude.{ℕ, suc, ◌≡◌, ◌<◌, List, [], ◌∷◌, length, map, filter, take, get_or, count_by, Bool, true, false, ◌&&◌, not, nat_eq, nat_lt, Option, Some, None, slice_get, if◌then◌else◌}
use Rattle.pt_document.specs.declared.job.Direction.{Direction}
use Rattle.pt_document.specs.declared.job.Direction.TheVariants.{Input, Output}
use Rattle.pt_document.specs.declared.job.Port.{Port}
use Rattle.pt_meaning.specs.Net as net
use Rattle.pt_net.specs.declared.net.Channel.{Channel}
use Rattle.pt_net.specs.declared.net.NetEntity.{NetEntity}

-- ---- children

abbrev pub is_number : ℕ → Option ℕ → Bool
is_number c None = false
is_number c (Some p) = nat_eq p c

-- the entity stands in the composite of this number, be it in a transparent one there
abbrev pub is_child : ℕ → NetEntity → Bool
is_child c e = is_number c e.parent

abbrev pub child_if : Bool → ℕ → List ℕ → List ℕ
child_if true i more = i ∷ more
child_if false i more = more

abbrev pub children_from : ℕ → ℕ → List NetEntity → List ℕ
children_from c i [] = []
children_from c i (e ∷ es) = child_if (is_child c e) i (children_from c (suc i) es)

-- the children of a composite, by their numbers in the net, in the order of the document
abbrev pub children_of : List NetEntity → ℕ → List ℕ
children_of es c = children_from c 0 es

-- the number of an entity in a composite behind so many children of it; 0 where no composite is round it
abbrev pub number_among : List NetEntity → ℕ → Option ℕ → ℕ
number_among before count None = 0
number_among before count (Some c) = if nat_lt c count then length (children_of before c) else 0

abbrev pub parent_of : Option NetEntity → Option ℕ
parent_of None = None
parent_of (Some e) = e.parent

-- the number of an entity among the children of its composite
abbrev pub child_number : List NetEntity → ℕ → ℕ
child_number es i = number_among (take i es) (length es) (parent_of (slice_get es i))

-- ---- ports

abbrev pub is_inward : Direction → Bool
is_inward Input = true
is_inward Output = false

abbrev pub is_input : Port → Bool
is_input p = is_inward p.direction

abbrev pub is_output : Port → Bool
is_output p = not (is_input p)

-- the number of a port behind others
abbrev pub number_by : List Port → Option Port → ℕ
number_by before None = 0
number_by before (Some port) = if is_input port then count_by is_input before else count_by is_output before

-- the number of a port among those of its direction
abbrev pub port_number : List Port → ℕ → ℕ
port_number ports p = number_by (take p ports) (slice_get ports p)

abbrev pub ports_in : Option NetEntity → List Port
ports_in None = []
ports_in (Some e) = e.ports.items

abbrev pub ports_at : List NetEntity → ℕ → List Port
ports_at es i = ports_in (slice_get es i)

-- ---- channels

-- where a channel begins, seen from inside its composite: at an own input, or at an output of a child
abbrev pub source_of : List NetEntity → Channel → net.Source
source_of es k =
    if nat_eq k.from.entity k.composite
    then net.Own (port_number (ports_at es k.from.entity) k.from.port)
    else net.Output (child_number es k.from.entity) (port_number (ports_at es k.from.entity) k.from.port)

abbrev pub is_within : ℕ → Channel → Bool
is_within c k = nat_eq k.composite c

-- the channels of a composite, in the order of their numbers
abbrev pub channels_in : List Channel → ℕ → List Channel
channels_in ks c = filter (is_within c) ks

-- the channel ends at a place of this entity, and not at an own output of it
abbrev pub comes_to : ℕ → Channel → Bool
comes_to i k = nat_eq k.to.entity i && not (nat_eq k.composite i)

-- how many places an entity has: each has one channel
abbrev pub place_count : List Channel → ℕ → ℕ
place_count ks i = count_by (comes_to i) ks

-- the inside of a composite: its children, and its channels by the numbers that its director uses
pub record IsInside (es : List NetEntity) (ks : List Channel) (c : ℕ) (children places : List ℕ) (sources : List net.Source) : Type 0 where
  pub children_are : children ≡ children_of es c
  pub places_are : places ≡ map (place_count ks) (children_of es c)
  pub sources_are : sources ≡ map (source_of es) (channels_in ks c)

-- the insides of all entities of a net; a library actor has nothing within
pub record AreInsides (es : List NetEntity) (ks : List Channel) (children places : List (List ℕ)) (sources : List (List net.Source)) : Type 0 where
  pub children_counted : length children ≡ length es
  pub places_counted : length places ≡ length es
  pub sources_counted : length sources ≡ length es
  pub each : (c : ℕ) → c < length es → IsInside es ks c (get_or children c []) (get_or places c []) (get_or sources c [])

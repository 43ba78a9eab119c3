-- Channels as the program makes them, place by place.
use Rattle.std.specs.Prelude.{◌≡◌, ℕ, ◌<◌, ◌⊎◌, ◌↔◌, List, [], ◌∷◌, ◌++◌, Some, slice_get, Bool, IsTrue, not, if◌then◌else◌}
use Rattle.std.specs.List.{AllZip, Contains, flat_map, enumerate_from}
use Rattle.pt_net.specs.declared.net.Channel.{Channel}
use Rattle.pt_net.specs.declared.wire.Wire.{Wire}
use Rattle.pt_net.specs.Standing.{is_opaque}
use Rattle.pt_net.specs.Table.{PortAt, Tables}
use Rattle.pt_net.specs.Wires.{is_input, Place, input_places, output_places}
use Rattle.pt_net.specs.Net.{all_places, channel, ReachesIn, IsChannel, IsChannelTo}
use Rattle.pt_net.specs.Stands.{IsLinkFault, IsTwoSources, most_channels, most_records}

-- the channel to a place from a source that isn't an own input of the opaque composite whose own output the place is
pub record IsGoodChannel (t : Tables) (place : Place) (k : Channel) : Type 0 where
  pub source : ℕ
  pub source_at : PortAt
  pub reaches : ReachesIn t source source_at place
  pub is : k ≡ channel source_at place
  pub apart : IsTrue (is_opaque place.at.standing) → IsTrue (not (is_input place.at)) → IsTrue (is_input source_at) → source_at.entity ≡ place.at.entity → ⊥

-- there are channels for these places beside those that there were
abbrev pub Adds : Tables → List Place → List Channel → List Channel → Type 0
Adds t places old new = (before : List Place) → AllZip (IsGoodChannel t) before old → AllZip (IsGoodChannel t) (before ++ places) new

-- the place of this number at this port
abbrev pub place_at : ℕ → PortAt → ℕ → ℕ → Place
place_at g p index relation = record { port = g; at = p; index = index; relation = relation }

-- that is one of the places of the tables, and there is a channel for it beside those that there were
abbrev pub IsPlaceAt : Tables → ℕ → ℕ → ℕ → Type 0
IsPlaceAt t g index relation = (p : PortAt) → slice_get t.ports g ≡ Some p → Contains (all_places t) (place_at g p index relation)

abbrev pub AddsAt : Tables → ℕ → ℕ → ℕ → List Channel → List Channel → Type 0
AddsAt t g index relation old new = (p : PortAt) → slice_get t.ports g ≡ Some p → Adds t (place_at g p index relation ∷ []) old new

-- the places of a port, if it is an input, or if it is an output
abbrev pub places_on : List Wire → Bool → ℕ × PortAt → List Place
places_on ws inputs q = if inputs then input_places ws q else output_places ws q

abbrev pub side_among : List Wire → Bool → List PortAt → List Place
side_among ws inputs ports = flat_map (places_on ws inputs) (enumerate_from 0 ports)

-- these are the channels, and no link and no relation group is at fault
pub record AreChannels (t : Tables) (channels : List Channel) : Type 0 where
  pub exactly : (k : Channel) → Contains channels k ↔ IsChannel t k
  pub numbered : AllZip (IsChannelTo t) (all_places t) channels
  pub no_link_fault : (path : List ℕ) → IsLinkFault t path → ⊥
  pub no_two_sources : (path : List ℕ) → IsTwoSources t path → ⊥

-- so many channels or recorded ports are too many
abbrev pub AreTooMany : ℕ → ℕ → Type 0
AreTooMany channels records = (most_channels < channels) ⊎ (most_records < records)

-- Where channels begin and end, as far as they are looked at.
use Rattle.std.specs.Prelude.{◌≡◌, ℕ, ◌<◌, List, [], length, map, get_or}
use Rattle.pt_meaning.specs.Net as net
use Rattle.pt_net.specs.declared.net.Channel.{Channel}
use Rattle.pt_net.specs.declared.net.NetEntity.{NetEntity}
use Rattle.pt_wiring.specs.declared.source.Source.{Source}
use Rattle.pt_wiring.specs.declared.source.Source.TheVariants.{Own, Output}
use Rattle.pt_net.specs.Inside.{child_number, ports_at, source_of, channels_in, place_count}
use Rattle.pt_wiring.specs.Ports.{ArePortNumbers}

abbrev pub source_view : Source → net.Source
source_view (Own port) = net.Own port
source_view (Output child port) = net.Output child port

-- the numbers of the entities of a net and of their ports, by which channels are told
pub record AreNumbers (es : List NetEntity) (numbers : List ℕ) (rows : List (List ℕ)) : Type 0 where
  pub counted : length numbers ≡ length es
  pub children : (i : ℕ) → i < length es → get_or numbers i 0 ≡ child_number es i
  pub rows_counted : length rows ≡ length es
  pub ports : (i : ℕ) → i < length es → ArePortNumbers (ports_at es i) (get_or rows i [])

-- each composite has the sources of these channels
pub record AreSources (es : List NetEntity) (ks : List Channel) (sources : List (List net.Source)) : Type 0 where
  pub counted : length sources ≡ length es
  pub each : (c : ℕ) → c < length es → get_or sources c [] ≡ map (source_of es) (channels_in ks c)

-- how many of these channels end at each entity
pub record AreArrivals (count : ℕ) (ks : List Channel) (arrivals : List ℕ) : Type 0 where
  pub counted : length arrivals ≡ count
  pub each : (i : ℕ) → i < count → get_or arrivals i 0 ≡ place_count ks i

-- the numbers of these entities
abbrev pub counts_at : List ℕ → List ℕ → List ℕ
counts_at arrivals children = map (λ child. get_or arrivals child 0) children

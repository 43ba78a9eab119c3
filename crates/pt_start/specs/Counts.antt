-- How many channels end at each port, as far as the channels are looked at.
use Rattle.std.specs.Prelude.{◌≡◌, ℕ, ◌+◌, ◌<◌, List, [], length, map, get_or, count_by}
use Rattle.std.proofs.Common.{set}
use Rattle.pt_document.specs.Document.{PortTree}
use Rattle.pt_net.specs.declared.net.Channel.{Channel}
use Rattle.pt_net.specs.declared.net.NetEntity.{NetEntity}
use Rattle.pt_start.specs.Started.{ends_at}

-- one more at this port, where it is there
abbrev pub one_more : List ℕ → ℕ → List ℕ
one_more counts port = set counts port (get_or counts port 0 + 1)

-- for each entity, how many of these channels end at each of its ports
abbrev pub AreCounts : List Channel → List (List ℕ) → Type 0
AreCounts ks rows = (k i : ℕ) → i < length (get_or rows k []) → get_or (get_or rows k []) i 0 ≡ count_by (ends_at k i) ks

-- there is a number for each port of each of these entities
abbrev pub AreSized : List NetEntity → List (List ℕ) → Type 0
AreSized es rows = map length rows ≡ map (λ e. length e.ports.items) es

-- a port with its number of channels
abbrev pub port_with : List ℕ → ℕ × PortTree → List ℕ × ℕ
port_with counts p = (p.1.name, get_or counts p.0 0)

-- Channels by the places at which they end: of a place that a child doesn't have there is none. Of a place that it has, the source and what is held are those that `Closed` tells.
use Rattle.std.specs.Prelude.{ℕ, zero, suc, ◌+◌, List, [], ◌∷◌, nat_lt, Option, Some, None, if◌then◌else◌}
use Rattle.pt_meaning.specs.Streams.{Streams, at, get}
use Rattle.pt_meaning.specs.Net.{Source, Net}
use Rattle.pt_meaning.specs.Tree.{Core, Sdf, Pn, Sr, De, Rv, Modal}
use Rattle.pt_meaning.specs.Closed.{if_there, as_own}

-- so many channels further on
abbrev pub further : ℕ → Option ℕ → Option ℕ
further n None = None
further n (Some c) = Some (n + c)

-- the channel that ends at a place of a child, where the child has that place: channels are numbered by their places, child by child
abbrev pub channel_at : List ℕ → (child place : ℕ) → Option ℕ
channel_at [] i q = None
channel_at (n ∷ ns) zero q = if nat_lt q n then Some q else None
channel_at (n ∷ ns) (suc i) q = further n (channel_at ns i q)

-- the tokens of a channel, none where there is no channel
abbrev pub tokens_in : {T : Type 0} → Streams T → Option ℕ → List T
tokens_in X None = []
tokens_in X (Some c) = at X c

-- where a place of a child gets its tokens from
abbrev pub source_in : Net → ℕ → ℕ → Option Source
source_in net i q = if_there (get net.sources) (channel_at net.places i q)

-- a refinement reads the like-named own input
abbrev pub source_of : {T : Type 0} → Core T → (child place : ℕ) → Option Source
source_of (Sdf p X) i q = source_in p.net i q
source_of (Pn p X) i q = source_in p.net i q
source_of (Sr p) i q = source_in p.net i q
source_of (De p) i q = source_in p.net i q
source_of (Rv p X) i q = source_in p.net i q
source_of (Modal chart m) i q = as_own (get (chart.in_ports i) q)

-- what the channel to a place of a child holds at the start
abbrev pub held_at : {T : Type 0} → Core T → (child place : ℕ) → List T
held_at (Sdf p X) i q = tokens_in X (channel_at p.net.places i q)
held_at (Pn p X) i q = tokens_in X (channel_at p.net.places i q)
held_at (Sr p) i q = []
held_at (De p) i q = []
held_at (Rv p X) i q = []
held_at (Modal chart m) i q = []

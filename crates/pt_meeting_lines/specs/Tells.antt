-- What a line of a report tells of a meeting of a composite: on which channel it was, by the place or the own output where that ends, or of which Barrier.
use Rattle.std.specs.Prelude.{◌≡◌, ◌≢◌, ℕ, List, Option, Some, None, slice_get}
use Rattle.pt_meaning.specs.Log.{Meeting, Channel, Barrier}
use Rattle.pt_document.specs.declared.job.Port.{Port}
use Rattle.pt_document.specs.Names.{below}
use Rattle.pt_net.specs.declared.net.Channel as joined
use Rattle.pt_net.specs.declared.net.End.{End}
use Rattle.pt_net.specs.declared.net.Net.{Net}
use Rattle.pt_net.specs.declared.net.NetEntity.{NetEntity}
use Rattle.pt_net.specs.Inside.{children_of, channels_in}
use Rattle.pt_trace.specs.declared.meetings.ChildPlace.{ChildPlace}
use Rattle.pt_trace.specs.declared.meetings.Met.{Met}
use Rattle.pt_trace.specs.declared.meetings.Met.TheVariants as met

-- the port of that number of an entity has this name
abbrev pub IsPortOf : NetEntity → ℕ → List ℕ → Type 0
IsPortOf e number name = (p : Port) × (slice_get e.ports.items number ≡ Some p) × (p.name ≡ name)

-- the entity of that number has this path below the composite
abbrev pub IsChildOf : Net → NetEntity → ℕ → List ℕ → NetEntity → Type 0
IsChildOf net round number path child = (slice_get net.entities.items number ≡ Some child) × (below round.path path ≡ child.path)

-- the end of a channel is this place of a child
abbrev pub EndsAt : Net → NetEntity → ChildPlace → End → Type 0
EndsAt net round place end = (child : NetEntity) × IsChildOf net round end.entity place.child child × IsPortOf child end.port place.port × (end.index ≡ place.channel)

-- the channel of that number within composite k
abbrev pub IsChannelIn : Net → (k : ℕ) → ℕ → joined.Channel → Type 0
IsChannelIn net k number x = slice_get (channels_in net.channels.items k) number ≡ Some x

-- a line tells a channel of composite k by the place of a child where it ends, or by the own output of this name
abbrev pub OnChannel : Net → (k : ℕ) → NetEntity → Met → joined.Channel → Type 0
OnChannel net k round (met.Meet place) x = (x.to.entity ≢ k) × EndsAt net round place x.to
OnChannel net k round (met.Out port) x = (x.to.entity ≡ k) × IsPortOf round x.to.port port
OnChannel net k round (met.Barrier path) x = ⊥

-- a line tells a Barrier, an entity of that number, by its path below the composite
abbrev pub OfBarrier : Net → NetEntity → Met → ℕ → Type 0
OfBarrier net round (met.Meet place) number = ⊥
OfBarrier net round (met.Out port) number = ⊥
OfBarrier net round (met.Barrier path) number = (child : NetEntity) × IsChildOf net round number path child

-- What a line tells of composite k: the meeting on a channel, by where that ends, or of a Barrier, a child, by its path.
abbrev pub Tells : Net → (k : ℕ) → NetEntity → Met → Meeting → Type 0
Tells net k round what (Channel c) = (x : joined.Channel) × IsChannelIn net k c x × OnChannel net k round what x
Tells net k round what (Barrier b) = (number : ℕ) × (slice_get (children_of net.entities.items k) b ≡ Some number) × OfBarrier net round what number

-- the same of the composite that has this path
abbrev pub TellsAt : Net → (path : Option (List ℕ)) → Met → Meeting → Type 0
TellsAt net None what m = ⊥
TellsAt net (Some path) what m = (k : ℕ) × (round : NetEntity) × (slice_get net.entities.items k ≡ Some round) × (round.path ≡ path) × Tells net k round what m

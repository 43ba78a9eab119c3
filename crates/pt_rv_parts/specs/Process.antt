-- One process of a Rendezvous composite: what it needs, what it has gathered, and what it has still to put (Hoare 1978, "Communicating Sequential Processes").
use Rattle.std.specs.Prelude.{◌≡◌, ℕ, ◌+◌, ◌<◌, ◌≤◌, List, [], ◌∷◌, Bool, true, false, nat_eq, max, length, get_or, replicate, Option, Some, None}
use Rattle.pt_meaning.specs.Streams.{Streams, at, any_present}
use Rattle.pt_meaning.specs.Machine.{Need}
use Rattle.pt_meaning.specs.Machine as machine
use Rattle.pt_meaning.specs.Process.{Put}
use Rattle.pt_meaning.specs.Process as process
use Rattle.pt_reaction.specs.Spared.{Spared}
use Rattle.pt_reaction.specs.Channels.{lists_of}
use Rattle.pt_value.specs.declared.token.Token.{Token}
use Rattle.pt_puts.specs.Puts.{PutsFirst, puts_in}
use Rattle.pt_puts.specs.Lines.{room_at}
use Rattle.pt_puts.specs.Need.{need_in}
use Rattle.pt_rv_work.specs.Core.{Standing, next_of}
use Rattle.pt_puts.specs.declared.need.KeptNeed.{KeptNeed}
use Rattle.pt_puts.specs.declared.need.KeptNeed.TheVariants.{Over, Counts, One, Any}
use Rattle.pt_rv_parts.specs.declared.process.Event.{Event}
use Rattle.pt_rv_parts.specs.declared.process.Event.TheVariants as event
use Rattle.pt_rv_parts.specs.declared.process.Process.TheInside.{Inside}

-- the lists that are lent, or those that grow
abbrev pub row_if : Bool → Streams Token → List (Spared Token) → Streams Token
row_if true row lines = row
row_if false row lines = lists_of lines

-- What is gathered: one token, at the only place or from any, is kept where it is lent, and tokens by counts are handed over to there.
abbrev pub got_in : KeptNeed → Bool → Streams Token → List (Spared Token) → Streams Token
got_in Over handed row lines = row_if handed row lines
got_in (Counts ns) handed row lines = row_if handed row lines
got_in One handed row lines = row
got_in Any handed row lines = row

abbrev pub seen_process : Inside → Standing Token
seen_process p = record { barrier = p.is_barrier; need = need_in p.need; got = got_in p.need p.is_handed p.row.items p.lines.items; puts = puts_in p.puts.items; handed = p.is_handed }

-- the greatest of these counts
abbrev pub most_in : List ℕ → ℕ
most_in [] = 0
most_in (n ∷ ns) = max n (most_in ns)

-- As many tokens as a place takes by these counts: its own, and of a Barrier the greatest, since it takes a token at all places until none lacks one.
abbrev pub taken_at : (barrier : Bool) → List ℕ → (place : ℕ) → ℕ
taken_at true ns place = most_in ns
taken_at false ns place = get_or ns place 0

-- A process gathers by these counts: so many places at the front lack nothing, and each place has room for as many tokens as it takes.
pub record GathersBy (barrier : Bool) (ns : List ℕ) (front : ℕ) (lines : List (Spared Token)) : Type 0 where
  pub counted : length ns ≡ length lines
  pub full : (q : ℕ) → q < front → get_or ns q 0 ≤ length (at (lists_of lines) q)
  pub room : (q : ℕ) → q < length lines → taken_at barrier ns q ≤ length (at (lists_of lines) q) + room_at lines q

-- only the place that is filled has tokens
abbrev pub FilledAt : Option ℕ → Streams Token → Type 0
FilledAt None row = (q : ℕ) → at row q ≡ []
FilledAt (Some place) row = (place < length row) × (0 < length (at row place)) × ((q : ℕ) → nat_eq place q ≡ false → at row q ≡ [])

-- what is known of what a process gathers
abbrev pub Gathers : Bool → KeptNeed → Bool → ℕ → Option ℕ → Streams Token → List (Spared Token) → Type 0
Gathers barrier Over handed full filled row lines = Unit {0}
Gathers barrier (Counts ns) handed full filled row lines = handed ≡ false → GathersBy barrier ns full lines
Gathers barrier One handed full filled row lines = (length row ≡ 1) × FilledAt filled row
Gathers barrier Any handed full filled row lines = FilledAt filled row

-- what a process keeps
pub record IsSound (p : Inside) : Type 0 where
  pub row : length p.row.items ≡ length p.lines.items
  pub gathers : Gathers p.is_barrier p.need p.is_handed p.full p.filled p.row.items p.lines.items

-- what a process does next: its next put is on this channel, or it does this
abbrev pub DoesNext : Standing Token → Event → Type 0
DoesNext s (event.Put channel) = PutsFirst s.puts (Some channel)
DoesNext s (event.Get place) = next_of s ≡ process.Gets place
DoesNext s event.GetAny = next_of s ≡ process.GetsAny
DoesNext s event.Join = next_of s ≡ process.Joins
DoesNext s event.Fire = next_of s ≡ process.Fires
DoesNext s event.Over = next_of s ≡ process.Idle

-- by what it lacks it gets, a Barrier by a meeting of all its channels, or fires
abbrev pub event_by : Bool → Option ℕ → Event
event_by barrier None = event.Fire
event_by true (Some place) = event.Join
event_by false (Some place) = event.Get place

-- the only place lacks its one token where none is filled
abbrev pub lacks_one : Option ℕ → Option ℕ
lacks_one None = Some 0
lacks_one (Some place) = None

-- whether it fires next
abbrev pub fires_by : Event → Bool
fires_by (event.Put channel) = false
fires_by (event.Get place) = false
fires_by event.GetAny = false
fires_by event.Join = false
fires_by event.Fire = true
fires_by event.Over = false

-- it gets next at a place
abbrev pub gets_by : Event → ℕ → Bool
gets_by (event.Put channel) place = false
gets_by (event.Get q) place = nat_eq q place
gets_by event.GetAny place = true
gets_by event.Join place = false
gets_by event.Fire place = false
gets_by event.Over place = false

-- it joins next in a Barrier's meeting
abbrev pub joins_by : Event → Bool
joins_by (event.Put channel) = false
joins_by (event.Get q) = false
joins_by event.GetAny = false
joins_by event.Join = true
joins_by event.Fire = false
joins_by event.Over = false

-- it fires where some place has a token, and gets at any otherwise
abbrev pub any_event_by : Option ℕ → Event
any_event_by None = event.GetAny
any_event_by (Some place) = event.Fire

-- a token may come to this place: fewer are gathered there than it takes by the counts, or none is gathered where any will do
abbrev pub TakesAt : Bool → Need → Streams Token → ℕ → Type 0
TakesAt barrier machine.Over got place = ⊥
TakesAt barrier (machine.Counts ns) got place = length (at got place) < taken_at barrier ns place
TakesAt barrier machine.Any got place = any_present got ≡ false

-- a process gathers, and a token may come to this place
pub record MayTake (s : Standing Token) (place : ℕ) : Type 0 where
  pub gathers : s.handed ≡ false
  pub there : place < length s.got
  pub takes : TakesAt s.barrier s.need s.got place

-- a process with so many places at its start
abbrev pub at_start : Bool → Need → ℕ → Standing Token
at_start barrier need places = record { barrier = barrier; need = need; got = replicate places []; puts = []; handed = false }

-- it has used what it gathered, and has this need
abbrev pub renewed : Need → Standing Token → Standing Token
renewed need s = record { barrier = s.barrier; need = need; got = process.emptied s.got; puts = s.puts; handed = false }

abbrev pub with_puts : List (Put Token) → Standing Token → Standing Token
with_puts us s = record { barrier = s.barrier; need = s.need; got = s.got; puts = us; handed = s.handed }

-- each place is empty, and has room for as many tokens as it takes
abbrev pub HaveRoom : Bool → List ℕ → List (Spared Token) → Type 0
HaveRoom barrier ns lines = (q : ℕ) → q < length lines → (at (lists_of lines) q ≡ []) × (taken_at barrier ns q ≤ room_at lines q)

-- the counts of a need, or none
abbrev pub counts_in : Need → List ℕ
counts_in machine.Over = []
counts_in (machine.Counts ns) = ns
counts_in machine.Any = []

-- of a Barrier no count is more
abbrev pub IsLeast : Bool → List ℕ → ℕ → Type 0
IsLeast barrier ns least = barrier ≡ true → most_in ns ≤ least

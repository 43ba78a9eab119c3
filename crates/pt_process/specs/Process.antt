-- One process of a network: what it needs, what it has gathered, and what it has still to put (Kahn and MacQueen 1977).
use Rattle.std.specs.Prelude.{◌≡◌, ℕ, zero, suc, ◌+◌, ◌<◌, ◌≤◌, List, [], ◌∷◌, ◌++◌, Bool, true, false, nat_eq, length, drop, get_or, replicate, Option, Some, None, refl}
use Rattle.std.specs.Coded.{Coded, code_by, coded×, coded_bool, coded_list}
use Rattle.pt_meaning.specs.Streams.{Streams, at, change_at}
use Rattle.pt_meaning.specs.Machine.{Need, Over, Counts, Any, Takes, front}
use Rattle.pt_meaning.specs.Net.{Source}
use Rattle.pt_meaning.specs.Kahn.{arrival}
use Rattle.pt_meaning.specs.Process.{Put, emptied, puts_of_port}
use Rattle.pt_meaning.specs.Jam.{is_in_order}
use Rattle.pt_pn_laws.specs.State.{lacking_place}
use Rattle.pt_reaction.specs.Spared.{Spared}
use Rattle.pt_reaction.specs.Channels.{lists_of}
use Rattle.pt_value.specs.declared.token.Token.{Token}
use Rattle.pt_puts.specs.Puts.{puts_in}
use Rattle.pt_puts.specs.Lines.{room_at}
use Rattle.pt_process.specs.declared.process.Event.{Event}
use Rattle.pt_process.specs.declared.process.Event.TheVariants as event
use Rattle.pt_process.specs.declared.need.KeptNeed.{KeptNeed}
use Rattle.pt_process.specs.declared.need.KeptNeed.TheVariants as kept
use Rattle.pt_process.specs.declared.process.Process.TheInside.{Inside}
use Rattle.pt_puts.specs.Codes.{coded_need, coded_streams, coded_put}

-- What contracts see of a process, and whether its tokens are handed over, so that they can be lent.
pub record Standing : Type 0 where
  pub need : Need
  pub got : Streams Token
  pub puts : List (Put Token)
  pub handed : Bool

abbrev pub coded_standing : Coded Standing
coded_standing =
    code_by
    (Need × (Streams Token × (List (Put Token) × Bool)))
    (coded× coded_need (coded× coded_streams (coded× (coded_list coded_put) coded_bool)))
    (λ s. (s.need, (s.got, (s.puts, s.handed))))
    (λ c. record { need = c.0; got = c.1.0; puts = c.1.1.0; handed = c.1.1.1 })
    (λ _. refl)

-- a need by counts, or none where the process is over
abbrev pub need_in : Option (List ℕ) → Need
need_in None = Over
need_in (Some ns) = Counts ns

-- a need that is kept, among the definitions
abbrev pub need_kept : KeptNeed → Need
need_kept kept.Over = Over
need_kept (kept.Counts ns) = Counts ns
need_kept kept.One = Counts (1 ∷ [])

-- the lists that are lent, or those that grow
abbrev pub row_if : Bool → Streams Token → List (Spared Token) → Streams Token
row_if true row lines = row
row_if false row lines = lists_of lines

-- what is gathered at the only place: its token, or none where it lacks one, though a used token may lie there
abbrev pub alone_in : (front : ℕ) → Streams Token → Streams Token
alone_in zero row = [] ∷ []
alone_in (suc n) row = row

-- What is gathered: one token at the only place is kept where it is lent, and tokens by counts are handed over to there.
abbrev pub got_in : KeptNeed → Bool → (front : ℕ) → Streams Token → List (Spared Token) → Streams Token
got_in kept.Over handed front row lines = row_if handed row lines
got_in (kept.Counts ns) handed front row lines = row_if handed row lines
got_in kept.One handed front row lines = alone_in front row

abbrev pub seen_process : Inside → Standing
seen_process p = record { need = need_kept p.need; got = got_in p.need p.is_handed p.full p.row.items p.lines.items; puts = puts_in p.puts.items; handed = p.is_handed }

-- A process gathers by these counts: in the order of its places and no more than that, with room for all; so many places at the front lack nothing.
pub record GathersBy (ns : List ℕ) (front : ℕ) (lines : List (Spared Token)) : Type 0 where
  pub counted : length ns ≡ length lines
  pub order : is_in_order ns (lists_of lines) ≡ true
  pub full : (q : ℕ) → q < front → get_or ns q 0 ≤ length (at (lists_of lines) q)
  pub room : (q : ℕ) → q < length lines → get_or ns q 0 ≤ length (at (lists_of lines) q) + room_at lines q

-- The only place has its one token, where it lacks nothing. Where it lacks one, a used token may lie there, but not once it is handed over.
abbrev pub HasOne : Bool → (front : ℕ) → Streams Token → Type 0
HasOne handed zero row = (length row ≡ 1) × (handed ≡ true → row ≡ [] ∷ [])
HasOne handed (suc n) row = (x : Token) × (row ≡ (x ∷ []) ∷ [])

-- what is known of what a process gathers
abbrev pub Gathers : KeptNeed → Bool → (front : ℕ) → Streams Token → List (Spared Token) → Type 0
Gathers kept.Over handed front row lines = Unit {0}
Gathers (kept.Counts ns) handed front row lines = handed ≡ false → GathersBy ns front lines
Gathers kept.One handed front row lines = HasOne handed front row

-- what a process keeps
pub record IsSound (p : Inside) : Type 0 where
  pub row : length p.row.items ≡ length p.lines.items
  pub gathers : Gathers p.need p.is_handed p.full p.row.items p.lines.items

-- what a process does next
abbrev pub DoesNext : Standing → Event → Type 0
DoesNext s (event.Put channel) = (u : Put Token) × (us : List (Put Token)) × (s.puts ≡ u ∷ us) × (u.channel ≡ channel)
DoesNext s (event.Get place) = (s.puts ≡ []) × (lacking_place s.need s.got ≡ Some place) × (place < length s.got)
DoesNext s event.Fire = (s.puts ≡ []) × (left : Streams Token) × (front s.need s.got ≡ Takes s.got left)
DoesNext s event.Over = (s.puts ≡ []) × (s.need ≡ Over)

-- it gets where it lacks a token, and else fires
abbrev pub event_by : Option ℕ → Event
event_by None = event.Fire
event_by (Some place) = event.Get place

-- the only place lacks its one token where none is there
abbrev pub lacks_one : (front : ℕ) → Option ℕ
lacks_one zero = Some 0
lacks_one (suc n) = None

-- a process with so many places at its start
abbrev pub at_start : Need → ℕ → Standing
at_start need places = record { need = need; got = replicate places []; puts = []; handed = false }

-- it has got one token more
abbrev pub with_token : ℕ → Token → Standing → Standing
with_token place x s = record { need = s.need; got = change_at place (λ xs. xs ++ (x ∷ [])) s.got; puts = s.puts; handed = s.handed }

-- its first put is made
abbrev pub with_put_made : Standing → Standing
with_put_made s = record { need = s.need; got = s.got; puts = drop 1 s.puts; handed = s.handed }

abbrev pub with_handed : Standing → Standing
with_handed s = record { need = s.need; got = s.got; puts = s.puts; handed = true }

-- it has used what it gathered, and has this need
abbrev pub renewed : Need → Standing → Standing
renewed need s = record { need = need; got = emptied s.got; puts = s.puts; handed = false }

abbrev pub with_puts : List (Put Token) → Standing → Standing
with_puts us s = record { need = s.need; got = s.got; puts = us; handed = s.handed }

-- it has fired, and has these puts to make, and this need
abbrev pub once_fired : Need → List (Put Token) → Standing → Standing
once_fired need us s = record { need = need; got = emptied s.got; puts = us; handed = false }

-- a need by counts, or none
abbrev pub IsKept : Need → Type 0
IsKept Over = Unit {0}
IsKept (Counts ns) = Unit {0}
IsKept Any = ⊥

-- so many tokens are gathered at each place in the lines, and at the others none
abbrev pub lined_in : KeptNeed → List ℕ
lined_in kept.Over = []
lined_in (kept.Counts ns) = ns
lined_in kept.One = []

-- each line is empty, and has room for so many tokens
abbrev pub HasRooms : List ℕ → List (Spared Token) → Type 0
HasRooms ns lines = (q : ℕ) → q < length lines → (at (lists_of lines) q ≡ []) × (get_or ns q 0 ≤ room_at lines q)

-- how many of these puts are on the channel
abbrev pub one_if : Bool → ℕ
one_if true = 1
one_if false = 0

abbrev pub count_on : ℕ → List (Put Token) → ℕ
count_on c [] = 0
count_on c (u ∷ us) = one_if (nat_eq u.channel c) + count_on c us

-- what arrives, as puts on the channels from number c on, channel by channel
abbrev pub arrivals : (c : ℕ) → List Source → Streams Token → List (Put Token)
arrivals c [] inputs = []
arrivals c (s ∷ ss) inputs = puts_of_port (c ∷ []) (arrival s inputs) ++ arrivals (suc c) ss inputs

-- What a core notes of its processes: which were looked at and are stopped since then, and on which channels they wait.
use Rattle.std.specs.Prelude.{◌≡◌, ◌⊎◌, ℕ, ◌+◌, ◌<◌, ◌≤◌, List, [], ◌∷◌, Bool, true, false, length, get_or, set, Option, Some, None, refl}
use Rattle.std.specs.Coded.{Coded, code_by, coded×, coded_ℕ, coded_bool, coded_list}
use Rattle.pt_meaning.specs.Tag.{Tag}
use Rattle.pt_meaning.specs.Streams.{Streams}
use Rattle.pt_meaning.specs.Machine.{Over}
use Rattle.pt_meaning.specs.Process.{Put}
use Rattle.pt_meaning.specs.Running.{total}
use Rattle.pt_value.specs.declared.token.Token.{Token}
use Rattle.pt_recv.specs.Lines.{list_at}
use Rattle.pt_pn_laws.specs.State.{Network, offset_of, lacking_place}
use Rattle.pt_wakes.specs.Codes.{coded_wakes}
use Rattle.pt_process.specs.Network.{greatest_in}
use Rattle.pt_process.specs.Process.{Standing}
use Rattle.pt_pn_work.specs.Core.{nobody}
use Rattle.pt_pn.specs.declared.notes.Notes.TheInside.{Inside}

-- which processes are settled, and which of them have no put to make; on which channels one waits for a token, and for room; who puts on each channel and who gets from it; and the rank of a channel on which one waits for room
pub record Noted : Type 0 where
  pub settled : List Bool
  pub resting : List Bool
  pub tokens : List Bool
  pub rooms : List Bool
  pub writers : List ℕ
  pub readers : List ℕ
  pub ranks : List (Option Tag)

abbrev pub coded_noted : Coded Noted
coded_noted =
    code_by
    (List Bool × (List Bool × (List Bool × (List Bool × (List ℕ × (List ℕ × List (Option Tag)))))))
    (coded× (coded_list coded_bool) (coded× (coded_list coded_bool) (coded× (coded_list coded_bool) (coded× (coded_list coded_bool) (coded× (coded_list coded_ℕ) (coded× (coded_list coded_ℕ) coded_wakes))))))
    (λ m. (m.settled, (m.resting, (m.tokens, (m.rooms, (m.writers, (m.readers, m.ranks)))))))
    (λ c. record { settled = c.0; resting = c.1.0; tokens = c.1.1.0; rooms = c.1.1.1.0; writers = c.1.1.1.1.0; readers = c.1.1.1.1.1.0; ranks = c.1.1.1.1.1.1 })
    (λ _. refl)

abbrev pub seen_notes : Inside → Noted
seen_notes m = record { settled = m.marks.settled; resting = m.marks.resting; tokens = m.tokens.items; rooms = m.rooms.items; writers = m.writers.items; readers = m.readers.items; ranks = m.ranks }

-- process i is looked at again
abbrev pub awake : ℕ → Noted → Noted
awake i m = record { settled = set m.settled i false; resting = set m.resting i false; tokens = m.tokens; rooms = m.rooms; writers = m.writers; readers = m.readers; ranks = m.ranks }

-- on the channel nobody waits for a token, or for room
abbrev pub without_token : ℕ → Noted → Noted
without_token c m = record { settled = m.settled; resting = m.resting; tokens = set m.tokens c false; rooms = m.rooms; writers = m.writers; readers = m.readers; ranks = m.ranks }

abbrev pub without_room : ℕ → Noted → Noted
without_room c m = record { settled = m.settled; resting = m.resting; tokens = m.tokens; rooms = set m.rooms c false; writers = m.writers; readers = m.readers; ranks = m.ranks }

-- the process that waits for a token on the channel, if one does, is looked at again, and so is one that waits for room
abbrev pub woken_if : Bool → ℕ → Noted → Noted
woken_if true i m = awake i m
woken_if false i m = m

abbrev pub token_came : ℕ → Noted → Noted
token_came c m = woken_if (get_or m.tokens c false) (get_or m.readers c 0) (without_token c m)

abbrev pub room_came : ℕ → Noted → Noted
room_came c m = woken_if (get_or m.rooms c false) (get_or m.writers c 0) (without_room c m)

-- the tokens of these puts came, one after another
abbrev pub tokens_came : List (Put Token) → Noted → Noted
tokens_came [] m = m
tokens_came (u ∷ us) m = tokens_came us (token_came u.channel m)

-- the rank of a channel of this capacity, if it has one: of less capacity first, and of these of less number
abbrev pub rank_at : (capacity channel : ℕ) → Tag
rank_at k c = record { time = k; step = c }

abbrev pub rank_of : Option ℕ → (channel : ℕ) → Option Tag
rank_of None c = None
rank_of (Some k) c = Some (rank_at k c)

abbrev pub ranked : Option ℕ → (channel : ℕ) → Noted → Noted
ranked o c m = record { settled = m.settled; resting = m.resting; tokens = m.tokens; rooms = m.rooms; writers = m.writers; readers = m.readers; ranks = set m.ranks c (rank_of o c) }

-- process i is stopped: it waits for a token on the channel, it waits for room there, where the channel has this capacity, or it is over
abbrev pub token_awaited : ℕ → ℕ → Noted → Noted
token_awaited i c m = record { settled = set m.settled i true; resting = set m.resting i true; tokens = set m.tokens c true; rooms = m.rooms; writers = m.writers; readers = m.readers; ranks = m.ranks }

abbrev pub room_awaited : ℕ → ℕ → (capacity : ℕ) → Noted → Noted
room_awaited i c k m = record { settled = set m.settled i true; resting = m.resting; tokens = m.tokens; rooms = set m.rooms c true; writers = m.writers; readers = m.readers; ranks = set m.ranks c (rank_of (Some k) c) }

abbrev pub at_end : ℕ → Noted → Noted
at_end i m = record { settled = set m.settled i true; resting = set m.resting i true; tokens = m.tokens; rooms = m.rooms; writers = m.writers; readers = m.readers; ranks = m.ranks }

-- process i waits for a token on the channel, which is noted only where it is the one that gets there, or for room, only where it is the one that puts there
abbrev pub IsTokenNoted : ℕ → ℕ → Noted → Noted → Type 0
IsTokenNoted i c old new = (new ≡ old) ⊎ ((c < length old.tokens) × (get_or old.readers c 0 ≡ i) × (new ≡ token_awaited i c old))

abbrev pub IsRoomNoted : ℕ → ℕ → (capacity : ℕ) → Noted → Noted → Type 0
IsRoomNoted i c k old new = (new ≡ old) ⊎ ((c < length old.rooms) × (c < length old.ranks) × (get_or old.writers c 0 ≡ i) × (new ≡ room_awaited i c k old))

-- no process was looked at
pub record AreNone (processes : ℕ) (m : Noted) : Type 0 where
  pub settled : (i : ℕ) → get_or m.settled i false ≡ false
  pub resting : (i : ℕ) → get_or m.resting i false ≡ false
  pub counted : length m.settled ≡ processes
  pub rest_counted : length m.resting ≡ processes

-- where the channel may grow, its rank is noted
abbrev pub IsRanked : Network Token → List ℕ → Noted → ℕ → Type 0
IsRanked n K m c = get_or K c 0 < greatest_in n c → get_or m.ranks c None ≡ Some (rank_at (get_or K c 0) c)

-- Process i, which stands so, makes its next put on a channel that ends at a process and is full; this is noted, with the rank of a channel that may grow, and the process that puts there is i.
pub record AwaitsRoom (n : Network Token) (K : List ℕ) (L : Streams Token) (m : Noted) (i : ℕ) (p : Standing) : Type 0 where
  pub first : Put Token
  pub rest : List (Put Token)
  pub next : p.puts ≡ first ∷ rest
  pub inner : first.channel < total n.plan.net.places
  pub full : get_or K first.channel 0 ≤ length (list_at L first.channel)
  pub marked : get_or m.rooms first.channel false ≡ true
  pub writer : get_or m.writers first.channel 0 ≡ i
  pub ranked : IsRanked n K m first.channel

-- It lacks a token at a place whose channel is empty; this is noted, and the process that gets there is i.
pub record AwaitsToken (n : Network Token) (L : Streams Token) (m : Noted) (i : ℕ) (p : Standing) : Type 0 where
  pub none : p.puts ≡ []
  pub place : ℕ
  pub lacks : lacking_place p.need p.got ≡ Some place
  pub within : place < get_or n.plan.net.places i 0
  pub empty : length (list_at L (offset_of n.plan.net.places i + place)) ≡ 0
  pub marked : get_or m.tokens (offset_of n.plan.net.places i + place) false ≡ true
  pub reader : get_or m.readers (offset_of n.plan.net.places i + place) 0 ≡ i

-- it has no put to make, and is over
abbrev pub IsAtEnd : Standing → Type 0
IsAtEnd p = (p.puts ≡ []) × (p.need ≡ Over)

abbrev pub Waits : Network Token → List ℕ → Streams Token → Noted → ℕ → Standing → Type 0
Waits n K L m i p = AwaitsRoom n K L m i p ⊎ (AwaitsToken n L m i p ⊎ IsAtEnd p)

-- Each process that is noted as settled is stopped, and each that is noted as resting has no put to make.
pub record AreSettled (n : Network Token) (ps : List Standing) (K : List ℕ) (L : Streams Token) (m : Noted) : Type 0 where
  pub settled : (i : ℕ) → get_or m.settled i false ≡ true → Waits n K L m i (get_or ps i nobody)
  pub resting : (i : ℕ) → get_or m.resting i false ≡ true → (get_or ps i nobody).puts ≡ []
  pub counted : length m.settled ≡ length n.plan.net.places
  pub rest_counted : length m.resting ≡ length n.plan.net.places

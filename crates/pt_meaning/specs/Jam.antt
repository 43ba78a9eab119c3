-- Jams: a network of which each process has stopped, and that no growth of a channel helps (Parks 1995; the book, "Process Networks and Rendezvous"). The rule of growth and the greatest capacities are by the profile.
use Rattle.std.specs.Prelude.{◌≡◌, ◌⊎◌, ℕ, suc, ◌+◌, ◌≤◌, ◌<◌, List, [], ◌∷◌, ◌++◌, Bool, true, false, ◌&&◌, ◌||◌, not, nat_eq, nat_lt, length, take, drop, Option, Some, None}
use Rattle.pt_meaning.specs.Tag.{Tag}
use Rattle.pt_meaning.specs.Streams.{Streams, at, get, change_at, any_present}
use Rattle.pt_meaning.specs.Machine.{Need, Over, Counts, Any, Stepping, Facts}
use Rattle.pt_meaning.specs.Net.{Source, Own, Output, Net}
use Rattle.pt_meaning.specs.Rounds.{gave}
use Rattle.pt_meaning.specs.Pn.{pn_limits}
use Rattle.pt_meaning.specs.Process.{Put, puts_of}
use Rattle.pt_meaning.specs.Running.{total, runs}
use Rattle.pt_meaning.specs.Places.{Halfway, taken_if, Consistent, AllStop}

-- the channel of a process's next put
abbrev pub WaitsFor : {T : Type 0} → Halfway T → ℕ → ℕ → Type 0
WaitsFor {T} h i c = (u : Put T) × (us : List (Put T)) × (at h.puts i ≡ u ∷ us) × (u.channel ≡ c)

-- the source is an output of a process
abbrev pub is_fed : Option Source → Bool
is_fed None = false
is_fed (Some (Own j)) = false
is_fed (Some (Output i p)) = true

-- the channel is between two processes
abbrev pub IsBetween : Net → ℕ → Type 0
IsBetween net c = (is_fed (get net.sources c) ≡ true) × (c < total net.places)

-- no channel between two processes is longer than its capacity
abbrev pub HoldsAtMost : {T : Type 0} → Net → (capacity : ℕ → ℕ) → Halfway T → Type 0
HoldsAtMost net capacity h = (c : ℕ) → IsBetween net c → length (at h.queued c) ≤ capacity c

-- a process has gathered in the order of its places, and no more than it needs
abbrev pub is_empty : {T : Type 0} → Streams T → Bool
is_empty X = not (any_present X)

abbrev pub is_in_order : {T : Type 0} → List ℕ → Streams T → Bool
is_in_order [] X = is_empty X
is_in_order (n ∷ ns) [] = true
is_in_order (n ∷ ns) (xs ∷ X) = (nat_eq (length xs) n && is_in_order ns X) || (nat_lt (length xs) n && is_empty X)

abbrev pub is_gathering : {T : Type 0} → List (Put T) → Need → Streams T → Bool
is_gathering (u ∷ us) need got = is_empty got
is_gathering [] Over got = is_empty got
is_gathering [] (Counts ns) got = is_in_order ns got
is_gathering [] Any got = false

-- each process does so, from process i and channel offset on; one that has puts to make has gathered nothing
abbrev pub AllGather : {T S : Type 0} → Facts T S → Halfway T → (i offset : ℕ) → List ℕ → List S → Type 0
AllGather facts h i offset [] ss = Unit {0}
AllGather facts h i offset (n ∷ ns) [] = Unit {0}
AllGather facts h i offset (n ∷ ns) (s ∷ ss) = (is_gathering (at h.puts i) (facts.need s) (take n (drop offset h.gathered)) ≡ true) × AllGather facts h (suc i) (offset + n) ns ss

-- the puts that process i has still to make are the last ones of its last firing, in order of ports, tokens and channels
pub record IsPutting {T S : Type 0} (facts : Facts T S) (step : Stepping T S) (tag : Tag) (net : Net) (kids : List S) (all : Streams T) (ms : List ℕ) (h : Halfway T) (i : ℕ) : Type 0 where
  pub before : ℕ
  pub outputs : Streams T
  pub put : List (Put T)
  pub fired : get ms i ≡ Some (suc before)
  pub last : (port : ℕ) →
      gave (runs facts step tag net.places (pn_limits net.places) ms kids all) i port ≡ gave (runs facts step tag net.places (pn_limits net.places) (change_at i (λ m. before) ms) kids all) i port ++ at outputs port
  pub rest : puts_of net.sources i 0 outputs ≡ put ++ at h.puts i

-- A jam: every process has stopped, one at least at a put on a full channel, and each channel so waited for is between two processes and has its greatest capacity.
pub record Jam {T S : Type 0} (facts : Facts T S) (step : Stepping T S) (tag : Tag) (net : Net) (kids : List S) (start : Streams T) (greatest : ℕ → ℕ) (ms : List ℕ) (now : List S) (h : Halfway T) : Type 0 where
  pub consistent : Consistent facts step tag net kids start ms now h
  pub gathers : AllGather facts h 0 0 net.places now
  pub puts : (i : ℕ) → (at h.puts i ≡ []) ⊎ IsPutting facts step tag net kids consistent.running.all ms h i
  pub fits : HoldsAtMost net greatest h
  pub stop : AllStop facts greatest h 0 0 net.places now
  pub waits : (i : ℕ) × (c : ℕ) × WaitsFor h i c
  pub between : (i c : ℕ) → WaitsFor h i c → IsBetween net c

-- some process has its next put on the channel
abbrev pub is_next_put : {T : Type 0} → ℕ → List (List (Put T)) → Bool
is_next_put c [] = false
is_next_put c ([] ∷ puts) = is_next_put c puts
is_next_put c ((u ∷ us) ∷ puts) = nat_eq u.channel c || is_next_put c puts

-- the channels from c on that a process waits for, each with its length
abbrev pub waited_from : {T : Type 0} → ℕ → Streams T → List (List (Put T)) → List (ℕ × ℕ)
waited_from c [] puts = []
waited_from c (xs ∷ X) puts = taken_if (is_next_put c puts) (c, length xs) (waited_from (suc c) X puts)

-- the channels on which some process waits to put, by number, each with its length
abbrev pub waited_for : {T : Type 0} → Halfway T → List (ℕ × ℕ)
waited_for h = waited_from 0 h.queued h.puts

-- A PN firing gets into a jam, and these are the numbers and lengths of the full channels.
pub record IsFull {T S : Type 0} (facts : Facts T S) (step : Stepping T S) (tag : Tag) (net : Net) (kids : List S) (start : Streams T) (greatest : ℕ → ℕ) (full : List (ℕ × ℕ)) : Type 0 where
  pub made : List ℕ
  pub now : List S
  pub halfway : Halfway T
  pub jam : Jam facts step tag net kids start greatest made now halfway
  pub lengths : full ≡ waited_for halfway

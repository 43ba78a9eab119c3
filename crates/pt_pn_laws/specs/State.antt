-- What contracts see of a core of a PN composite: what each process has gathered and has still to put, and the channels with their capacities (Parks 1995; the book, "Process Networks and Rendezvous"). The calls are functions of it. Capacities and their growth are by the profile.
use Rattle.std.specs.Prelude.{◌≡◌, ℕ, suc, max, min, ◌+◌, ◌-◌, ◌<◌, List, [], ◌∷◌, ◌++◌, Bool, true, false, ◌&&◌, not, nat_lt, length, map, set, take, drop, get_or, Option, Some, None, if◌then◌else◌}
use Rattle.pt_meaning.specs.Tag.{Tag, origin}
use Rattle.pt_meaning.specs.Streams.{Streams, at, joined, change_at}
use Rattle.pt_meaning.specs.Machine.{Need, Over, Counts, Any, Takes, front}
use Rattle.pt_meaning.specs.Net.{Net}
use Rattle.pt_meaning.specs.Kahn.{arrived, lengths}
use Rattle.pt_meaning.specs.Pn.{PnPlan}
use Rattle.pt_meaning.specs.Process.{Put, lacking, puts_of, emptied}
use Rattle.pt_meaning.specs.Running.{total}
use Rattle.pt_meaning.specs.Places.{Halfway}
use Rattle.pt_meaning.specs.Jam.{WaitsFor, is_next_put, waited_for}
use Rattle.pt_meaning.specs.Tree as tree
use Rattle.pt_meaning.specs.Asked.{greatest_capacity}
use Rattle.pt_laws.specs.Channels.{further}
use Rattle.pt_laws.specs.TickRuns.{places_at}

-- What stays of a network: its plan, the initial and the maximum capacity that its director states, the first tokens of each channel, and what each process needs at its start.
pub record Network (T : Type 0) : Type 0 where
  pub plan : PnPlan
  pub initial : ℕ
  pub maximum : ℕ
  pub first : Streams T
  pub starts : List Need

-- No firing is under way; an event may be asked for; a process was asked to fire, and not told yet; the firing is done; or the network is in a jam.
pub data Stage : Type 0 where
  Idle : Stage
  Open : Stage
  Asked : (process : ℕ) → Stage
  Closed : Stage
  Blocked : Stage

-- A core: its network, what each process needs, the capacity of each channel, the places of the processes, the tag, and the stage.
pub record PnState (T : Type 0) : Type 0 where
  pub network : Network T
  pub needs : List Need
  pub capacity : List ℕ
  pub halfway : Halfway T
  pub tag : Tag
  pub stage : Stage

-- where the places of process i begin
abbrev pub offset_of : List ℕ → ℕ → ℕ
offset_of ns i = total (take i ns)

-- the streams with others at the places of process i
abbrev pub with_places : {B : Type 0} → List ℕ → ℕ → List B → List B → List B
with_places ns i L X = take (offset_of ns i) X ++ (L ++ drop (get_or ns i 0) (drop (offset_of ns i) X))

-- the first place that lacks a token of what is needed
abbrev pub lacking_place : {T : Type 0} → Need → Streams T → Option ℕ
lacking_place Over X = None
lacking_place (Counts ns) X = lacking 0 ns X
lacking_place Any X = None

-- the first token of a channel goes to the process at its end
abbrev pub got_from : {T : Type 0} → Option ℕ → Halfway T → Halfway T
got_from None h = h
got_from (Some c) h = record { gathered = change_at c (λ xs. xs ++ take 1 (at h.queued c)) h.gathered; queued = change_at c (λ xs. drop 1 xs) h.queued; puts = h.puts }

-- the first of these puts of process i is made
abbrev pub put_by : {T : Type 0} → ℕ → List (Put T) → Halfway T → Halfway T
put_by i [] h = h
put_by i (u ∷ us) h = record { gathered = h.gathered; queued = change_at u.channel (λ xs. xs ++ (u.token ∷ [])) h.queued; puts = set h.puts i us }

-- process i has used what it gathered, and has these outputs to put
abbrev pub fired_by : {T : Type 0} → Net → ℕ → Streams T → Halfway T → Halfway T
fired_by net i out h = record { gathered = with_places net.places i (emptied (places_at net.places i h.gathered)) h.gathered; queued = h.queued; puts = set h.puts i (puts_of net.sources i 0 out) }

-- of a channel with its capacity and another one the one of less capacity, the former where they have the same
abbrev pub lesser : (channel capacity : ℕ) → Option (ℕ × ℕ) → ℕ × ℕ
lesser c k None = (c, k)
lesser c k (Some other) = if nat_lt other.1 k then other else (c, k)

-- a capacity that is doubled, at most to the greatest
abbrev pub doubled : (greatest : ℕ) → ℕ → ℕ
doubled greatest k = min (k + k) greatest

-- each channel at its first capacity: the initial one, or the number of its first tokens where that is more
abbrev pub first_capacities : {T : Type 0} → (initial : ℕ) → Streams T → List ℕ
first_capacities initial first = map (λ xs. max initial (length xs)) first

-- what the capacities of channels may still grow by, from channel c on
abbrev pub growth_from : (greatest : ℕ → ℕ) → (channel : ℕ) → List ℕ → ℕ
growth_from greatest c [] = 0
growth_from greatest c (k ∷ ks) = (greatest c - k) + growth_from greatest (suc c) ks

-- how many puts the processes have still to make
abbrev pub puts_in : {T : Type 0} → List (List (Put T)) → ℕ
puts_in [] = 0
puts_in (us ∷ puts) = length us + puts_in puts

-- the process that was asked to fire
abbrev pub asked_process : Stage → Option ℕ
asked_process Idle = None
asked_process Open = None
asked_process (Asked process) = Some process
asked_process Closed = None
asked_process Blocked = None

module _ {T : Type 0} where
  abbrev pub net_of : PnState T → Net
  net_of s = s.network.plan.net

  -- what process i has gathered, place by place, and what it needs
  abbrev pub got_of : PnState T → ℕ → Streams T
  got_of s i = places_at (net_of s).places i s.halfway.gathered

  abbrev pub need_at : PnState T → ℕ → Need
  need_at s i = get_or s.needs i Over

  -- the channel of its next get, if it lacks a token
  abbrev pub wanted : PnState T → ℕ → Option ℕ
  wanted s i = further (offset_of (net_of s).places i) (lacking_place (need_at s i) (got_of s i))

  abbrev pub capacity_of : PnState T → ℕ → ℕ
  capacity_of s c = get_or s.capacity c 0

  -- the greatest capacity of a channel, by the definitions
  abbrev pub greatest_of : PnState T → ℕ → ℕ
  greatest_of s c = greatest_capacity s.network.maximum (tree.Pn s.network.plan s.network.first) c

  -- a put on the channel may be made: it ends at an own output, which collects without bound, or it isn't full
  abbrev pub has_room : PnState T → ℕ → Bool
  has_room s c = not (nat_lt c (total (net_of s).places) && not (nat_lt (length (at s.halfway.queued c)) (capacity_of s c)))

  -- process i may take its next token: it has no put to make, and the channel of the place that lacks one has a token
  pub record MayGet (s : PnState T) (i : ℕ) : Type 0 where
    pub there : i < length (net_of s).places
    pub none : at s.halfway.puts i ≡ []
    pub channel : ℕ
    pub wants : wanted s i ≡ Some channel
    pub some : 0 < length (at s.halfway.queued channel)

  -- process i may make its next put
  pub record MayPut (s : PnState T) (i : ℕ) : Type 0 where
    pub there : i < length (net_of s).places
    pub first : Put T
    pub rest : List (Put T)
    pub next : at s.halfway.puts i ≡ first ∷ rest
    pub room : has_room s first.channel ≡ true

  -- process i may fire: it has no put to make, and has gathered all that it needs, and no more
  pub record MayFire (s : PnState T) (i : ℕ) : Type 0 where
    pub there : i < length (net_of s).places
    pub none : at s.halfway.puts i ≡ []
    pub left : Streams T
    pub ready : front (need_at s i) (got_of s i) ≡ Takes (got_of s i) left

  -- a process with these puts to make and this need goes no further: its next put is on a full channel, it lacks a token on an empty one, or it is over
  abbrev pub IsStopped : PnState T → ℕ → List (Put T) → Need → Type 0
  IsStopped s i (u ∷ us) need = has_room s u.channel ≡ false
  IsStopped s i [] Over = Unit {0}
  IsStopped s i [] (Counts ns) = (q : ℕ) × (lacking 0 ns (got_of s i) ≡ Some q) × (at s.halfway.queued (offset_of (net_of s).places i + q) ≡ [])
  IsStopped s i [] Any = ⊥

  -- no process goes further
  abbrev pub AllStopped : PnState T → Type 0
  AllStopped s = (i : ℕ) → i < length (net_of s).places → IsStopped s i (at s.halfway.puts i) (need_at s i)

  -- of the channels from c on that a process waits to put on, and that may still grow, the one of least capacity, and of these the one of least number, with its capacity
  abbrev pub least_from : PnState T → ℕ → List ℕ → Option (ℕ × ℕ)
  least_from s c [] = None
  least_from s c (k ∷ ks) = if is_next_put c s.halfway.puts && nat_lt k (greatest_of s c) then Some (lesser c k (least_from s (suc c) ks)) else least_from s (suc c) ks

  abbrev pub least_full : PnState T → Option (ℕ × ℕ)
  least_full s = least_from s 0 s.capacity

  -- an artificial deadlock: no process goes further, and a channel that one waits for may grow
  pub record MayGrow (s : PnState T) : Type 0 where
    pub stopped : AllStopped s
    pub least : ℕ × ℕ
    pub grows : least_full s ≡ Some least

  -- no process goes further, and each channel that one waits for is at its greatest capacity
  pub record IsFull (s : PnState T) : Type 0 where
    pub stopped : AllStopped s
    pub process : ℕ
    pub channel : ℕ
    pub waits : WaitsFor s.halfway process channel
    pub none : least_full s ≡ None

  -- the real deadlock: no process goes further, and none waits to put
  pub record IsOver (s : PnState T) : Type 0 where
    pub stopped : AllStopped s
    pub none : (i : ℕ) → at s.halfway.puts i ≡ []

  -- what the channels hold between two firings: what is gathered and not used, and then what is in the queue
  abbrev pub held_of : PnState T → Streams T
  held_of s = joined s.halfway.gathered s.halfway.queued

  -- and once the inputs of a firing have arrived
  abbrev pub start_of : PnState T → Streams T → Streams T
  start_of s inputs = arrived (net_of s).sources inputs (held_of s)

  -- the events and calls of a core, as functions on its states
  abbrev pub in_places : Halfway T → PnState T → PnState T
  in_places h s = record { network = s.network; needs = s.needs; capacity = s.capacity; halfway = h; tag = s.tag; stage = s.stage }

  abbrev pub in_stage : Stage → PnState T → PnState T
  in_stage stage s = record { network = s.network; needs = s.needs; capacity = s.capacity; halfway = s.halfway; tag = s.tag; stage = stage }

  -- no firing is under way, and the first tokens are on the channels
  abbrev pub started : Network T → PnState T
  started n = record {
    network = n;
    needs = n.starts;
    capacity = first_capacities n.initial n.first;
    halfway = record { gathered = emptied (take (total n.plan.net.places) n.first); queued = n.first; puts = map (λ places. []) n.plan.net.places };
    tag = origin;
    stage = Idle;
  }

  abbrev pub restarted : PnState T → PnState T
  restarted s = started s.network

  -- a firing begins: the inputs arrive
  abbrev pub begun : Tag → Streams T → PnState T → PnState T
  begun tag inputs s = record {
    network = s.network;
    needs = s.needs;
    capacity = s.capacity;
    halfway = record { gathered = s.halfway.gathered; queued = arrived (net_of s).sources inputs s.halfway.queued; puts = s.halfway.puts };
    tag = tag;
    stage = Open;
  }

  -- process i has taken its next token, or made its next put
  abbrev pub after_get : ℕ → PnState T → PnState T
  after_get i s = in_places (got_from (wanted s i) s.halfway) s

  abbrev pub after_put : ℕ → PnState T → PnState T
  after_put i s = in_places (put_by i (at s.halfway.puts i) s.halfway) s

  -- the least full channel has grown
  abbrev pub grown_by : Option (ℕ × ℕ) → PnState T → PnState T
  grown_by None s = s
  grown_by (Some least) s = record { network = s.network; needs = s.needs; capacity = set s.capacity least.0 (doubled (greatest_of s least.0) least.1); halfway = s.halfway; tag = s.tag; stage = s.stage }

  abbrev pub after_grow : PnState T → PnState T
  after_grow s = grown_by (least_full s) s

  -- process i has fired on what it gathered, gave this, and has this need from then on
  abbrev pub after_told : ℕ → Streams T → Need → PnState T → PnState T
  after_told i out need s = record { network = s.network; needs = set s.needs i need; capacity = s.capacity; halfway = fired_by (net_of s) i out s.halfway; tag = s.tag; stage = Open }

  -- the inputs of the process that was asked to fire
  abbrev pub lent_if : PnState T → Option ℕ → Streams T
  lent_if s None = []
  lent_if s (Some i) = got_of s i

  -- what each own output gives, and the core once that is handed out
  abbrev pub own_of : PnState T → Streams T
  own_of s = drop (total (net_of s).places) s.halfway.queued

  abbrev pub closed : PnState T → PnState T
  closed s = record {
    network = s.network;
    needs = s.needs;
    capacity = s.capacity;
    halfway = record { gathered = s.halfway.gathered; queued = take (total (net_of s).places) s.halfway.queued ++ emptied (own_of s); puts = s.halfway.puts };
    tag = s.tag;
    stage = Idle;
  }

  -- the numbers and lengths of the full channels that are waited for
  abbrev pub blocked_of : PnState T → List (ℕ × ℕ)
  blocked_of s = waited_for s.halfway

  -- At most so many gets, puts and growths may come before a process fires: a put moves a token once more than a get.
  abbrev pub waits : PnState T → ℕ
  waits s = (puts_in s.halfway.puts + puts_in s.halfway.puts) + total (lengths s.halfway.queued) + growth_from (greatest_of s) 0 s.capacity

-- What contracts see of a core, from its processes one by one.
use Rattle.std.specs.Prelude.{ℕ, List, [], ◌∷◌, ◌++◌, Bool, true, false, map, get_or, Option, Some, None}
use Rattle.pt_meaning.specs.Tag.{Tag}
use Rattle.pt_meaning.specs.Streams.{Streams, at, get, change_at}
use Rattle.pt_meaning.specs.Log.{Meeting}
use Rattle.pt_meaning.specs.Machine.{Need, Over}
use Rattle.pt_meaning.specs.Net.{Source, Own, Output, Net}
use Rattle.pt_meaning.specs.Process.{Put, Next, by_puts, by_need, gets_at, emptied, rest_of}
use Rattle.pt_meaning.specs.Meetings.{first_on, Target, Place, Outlet, Hop}
use Rattle.pt_rv_laws.specs.State.{Processes, RvState, Stage}

-- A process: whether it is a Barrier, what it needs, what it has gathered at each place, the puts that it has still to make, and whether it has handed over what it gathered, so that this can be lent.
pub record Standing (T : Type 0) : Type 0 where
  pub barrier : Bool
  pub need : Need
  pub got : Streams T
  pub puts : List (Put T)
  pub handed : Bool

-- no process
abbrev pub nobody : {T : Type 0} → Standing T
nobody = record { barrier = false; need = Over; got = []; puts = []; handed = false }

-- what it does next
abbrev pub next_of : {T : Type 0} → Standing T → Next
next_of p = by_puts p.puts (by_need p.barrier p.need p.got)

-- it has got one token more, made its next put, or handed over what it gathered
abbrev pub with_token : {T : Type 0} → (place : ℕ) → T → Standing T → Standing T
with_token place x p = record { barrier = p.barrier; need = p.need; got = change_at place (λ xs. xs ++ (x ∷ [])) p.got; puts = p.puts; handed = p.handed }

abbrev pub with_put_made : {T : Type 0} → Standing T → Standing T
with_put_made p = record { barrier = p.barrier; need = p.need; got = p.got; puts = rest_of p.puts; handed = p.handed }

abbrev pub with_handed : {T : Type 0} → Standing T → Standing T
with_handed p = record { barrier = p.barrier; need = p.need; got = p.got; puts = p.puts; handed = true }

-- it has fired, and has these puts to make, and this need
abbrev pub once_fired : {T : Type 0} → Need → List (Put T) → Standing T → Standing T
once_fired need us p = record { barrier = p.barrier; need = need; got = emptied p.got; puts = us; handed = false }

-- process by process
abbrev pub barriers_of : {T : Type 0} → List (Standing T) → List Bool
barriers_of ps = map (λ p. p.barrier) ps

abbrev pub needs_of : {T : Type 0} → List (Standing T) → List Need
needs_of ps = map (λ p. p.need) ps

abbrev pub gots_of : {T : Type 0} → List (Standing T) → List (Streams T)
gots_of ps = map (λ p. p.got) ps

abbrev pub puts_of_all : {T : Type 0} → List (Standing T) → List (List (Put T))
puts_of_all ps = map (λ p. p.puts) ps

-- What moves in a meeting: the processes, the own inputs with what they have to put, and what has come to the own outputs.
pub record Moving (T : Type 0) : Type 0 where
  pub processes : List (Standing T)
  pub inputs : List (List (Put T))
  pub outputs : Streams T

-- the state of a core in which they stand so
abbrev pub state_with : {T : Type 0} → Processes → Moving T → List Meeting → Tag → Stage → RvState T
state_with p w met tag stage = record {
  processes = p;
  needs = needs_of w.processes;
  places = record { got = gots_of w.processes; puts = puts_of_all w.processes; inputs = w.inputs };
  outputs = w.outputs;
  met = met;
  tag = tag;
  stage = stage;
}

-- the puts of the sender at a source
abbrev pub puts_at : {T : Type 0} → Moving T → Option Source → List (Put T)
puts_at w None = []
puts_at w (Some (Own j)) = at w.inputs j
puts_at w (Some (Output i port)) = (get_or w.processes i nobody).puts

-- what the sender of a channel puts next, where that is on the channel
abbrev pub offer_in : {T : Type 0} → Net → Moving T → (channel : ℕ) → Option T
offer_in net w c = first_on c (puts_at w (get net.sources c))

abbrev pub offers_in : {T : Type 0} → Net → Moving T → List Hop → List (Option T)
offers_in net w [] = []
offers_in net w (h ∷ hs) = offer_in net w h.channel ∷ offers_in net w hs

-- whether the receiver at the end of a channel gets there next
abbrev pub gets_there : {T : Type 0} → Moving T → Target → Bool
gets_there w (Place i place) = gets_at place (next_of (get_or w.processes i nobody))
gets_there w (Outlet o) = true

-- the sender at a source has made its put, and the receiver has got a token
abbrev pub sent_by : {T : Type 0} → Option Source → Moving T → Moving T
sent_by None w = w
sent_by (Some (Own j)) w = record { processes = w.processes; inputs = change_at j rest_of w.inputs; outputs = w.outputs }
sent_by (Some (Output i port)) w = record { processes = change_at i with_put_made w.processes; inputs = w.inputs; outputs = w.outputs }

abbrev pub received_by : {T : Type 0} → T → Target → Moving T → Moving T
received_by x (Place i place) w = record { processes = change_at i (with_token place x) w.processes; inputs = w.inputs; outputs = w.outputs }
received_by x (Outlet o) w = record { processes = w.processes; inputs = w.inputs; outputs = change_at o (λ xs. xs ++ (x ∷ [])) w.outputs }

-- a token has passed on a channel that ends there
abbrev pub passed_to : {T : Type 0} → Net → (channel : ℕ) → Target → T → Moving T → Moving T
passed_to net c end x w = received_by x end (sent_by (get net.sources c) w)

-- of these tokens each has passed on its channel, one after another
abbrev pub all_passed : {T : Type 0} → Net → List Hop → List (Option T) → Moving T → Moving T
all_passed net [] xs w = w
all_passed net (h ∷ hs) [] w = w
all_passed net (h ∷ hs) (None ∷ xs) w = w
all_passed net (h ∷ hs) (Some x ∷ xs) w = all_passed net hs xs (passed_to net h.channel h.target x w)

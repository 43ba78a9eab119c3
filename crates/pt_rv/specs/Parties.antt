-- Who takes part in meetings, and what is known of them.
use Rattle.std.specs.Prelude.{◌≡◌, ℕ, ◌+◌, ◌-◌, ◌<◌, ◌≤◌, List, [], ◌∷◌, Bool, true, false, nat_eq, length, map, get_or, Option, Some, None}
use Rattle.pt_meaning.specs.Streams.{Streams, at}
use Rattle.pt_meaning.specs.Machine.{Counts}
use Rattle.pt_meaning.specs.Log.{Barrier}
use Rattle.pt_meaning.specs.Meetings.{Target, Place, Outlet, all_there, hops_in}
use Rattle.pt_meaning.specs.Net.{Source, Own, Output}
use Rattle.pt_meaning.specs.Process.{Put, is_joining}
use Rattle.pt_meaning.specs.Running.{total}
use Rattle.pt_value.specs.declared.token.Token.{Token}
use Rattle.pt_reaction.specs.Spared.{Spared}
use Rattle.pt_rv_laws.specs.State.{Processes}
use Rattle.pt_rv_laws.specs.Lawful.{HasPlaces}
use Rattle.pt_rv_work.specs.Core.{Standing, Moving, nobody, next_of, barriers_of, puts_of_all, offer_in, offers_in}
use Rattle.pt_rv_plan.specs.Ends.{Arriving}
use Rattle.pt_rv_parts.specs.Process.{MayTake}
use Rattle.pt_rv.specs.declared.parties.Parties.{Parties}

-- what own inputs have to put, and what has come to own outputs
abbrev pub inputs_of : List Arriving → List (List (Put Token))
inputs_of is = map (λ (i : Arriving). i.puts) is

abbrev pub outputs_of : List (Spared Token) → Streams Token
outputs_of os = map (λ (o : Spared Token). o.list) os

-- what moves in a meeting
abbrev pub moving_of : List (Standing Token) → List Arriving → List (Spared Token) → Moving Token
moving_of ps is os = record { processes = ps; inputs = inputs_of is; outputs = outputs_of os }

abbrev pub moving_in : Parties → Moving Token
moving_in w = moving_of w.team w.inlets.items w.outlets.items

-- a weight for each put, and the weight of all puts of these senders
abbrev pub weight_of : (Put Token → ℕ) → List (Put Token) → ℕ
weight_of f [] = 0
weight_of f (u ∷ us) = f u + weight_of f us

abbrev pub weights_of : (Put Token → ℕ) → List (List (Put Token)) → ℕ
weights_of f [] = 0
weights_of f (us ∷ puts) = weight_of f us + weights_of f puts

-- the weight of all puts that wait
abbrev pub waiting : (Put Token → ℕ) → Moving Token → ℕ
waiting f w = weights_of f (puts_of_all w.processes) + weights_of f w.inputs

-- one for each put, or for each on a channel
abbrev pub each : Put Token → ℕ
each u = 1

abbrev pub one_if : Bool → ℕ
one_if true = 1
one_if false = 0

abbrev pub on : ℕ → Put Token → ℕ
on c u = one_if (nat_eq u.channel c)

-- the room of an own output
abbrev pub spare_at : List (Spared Token) → ℕ → ℕ
spare_at os o = get_or (map (λ (x : Spared Token). x.spare) os) o 0

-- The parties fit the processes: it is told which are Barriers, each has its places and needs a count for each of them, a token from any, or nothing more; there is an entry for each own input and output; and each put that waits for an own output has room there.
pub record Fit (p : Processes) (ps : List (Standing Token)) (is : List Arriving) (os : List (Spared Token)) : Type 0 where
  pub told : p.plan.barriers ≡ barriers_of ps
  pub there : length ps ≡ length p.plan.net.places
  pub placed : (i : ℕ) → i < length ps → length (get_or ps i nobody).got ≡ get_or p.plan.net.places i 0
  pub counts : (i : ℕ) → i < length ps → HasPlaces (get_or p.plan.net.places i 0) (get_or ps i nobody).need
  pub inlets : length is ≡ length p.plan.takes
  pub outlets : length os ≡ length p.plan.net.sources - total p.plan.net.places
  pub rooms : (o : ℕ) → o < length os → waiting (on (total p.plan.net.places + o)) (moving_of ps is os) ≤ spare_at os o

abbrev pub FitIn : Processes → Parties → Type 0
FitIn p w = Fit p w.team w.inlets.items w.outlets.items

-- a Barrier that gathers by counts has as many tokens at each place
abbrev pub IsLevel : Standing Token → Type 0
IsLevel p = p.barrier ≡ true → (ns : List ℕ) → p.need ≡ Counts ns → (q r : ℕ) → q < length p.got → r < length p.got → length (at p.got q) ≡ length (at p.got r)

abbrev pub AllLevel : List (Standing Token) → Type 0
AllLevel ps = (i : ℕ) → IsLevel (get_or ps i nobody)

-- what is there to send at a source: a process that gathers or puts, or an own input
abbrev pub IsSender : Source → Parties → Type 0
IsSender (Own j) w = j < length w.inlets.items
IsSender (Output i port) w = (i < length w.team) × ((get_or w.team i nobody).handed ≡ false)

-- a token may come to there: to a place of a process that gathers, or to an own output with room
abbrev pub MayReceive : Target → Parties → Type 0
MayReceive (Place i place) w = (i < length w.team) × MayTake (get_or w.team i nobody) place
MayReceive (Outlet o) w = (o < length w.outlets.items) × (0 < spare_at w.outlets.items o)

-- an own output that got a token has so much less room
abbrev pub less_at : Target → ℕ → ℕ
less_at (Place i place) o = 0
less_at (Outlet p) o = one_if (nat_eq p o)

-- a channel is offered a token
abbrev pub IsOffered : Processes → Parties → ℕ → Type 0
IsOffered p w c = (x : Token) × (offer_in p.plan.net (moving_in w) c ≡ Some x)

-- where a channel ends at a place, its process takes a token there; an own output always receives
abbrev pub Receives : Target → Parties → Type 0
Receives (Place i place) w = (i < length w.team) × MayTake (get_or w.team i nobody) place
Receives (Outlet o) w = Unit {0}

-- all channels of a Barrier are offered a token, and it joins in its meeting
pub record Joins (p : Processes) (w : Parties) (b : ℕ) : Type 0 where
  pub there : b < length p.plan.net.places
  pub offered : all_there (offers_in p.plan.net (moving_in w) (hops_in p.plan.net (Barrier b))) ≡ true
  pub joins : is_joining (next_of (get_or w.team b nobody)) ≡ true

-- something is there
abbrev pub is_there : {A : Type 0} → Option A → Bool
is_there None = false
is_there (Some x) = true

-- who sends at a source, or receives at the end of a channel, is there
abbrev pub IsThere : Source → Parties → Type 0
IsThere (Own j) w = j < length w.inlets.items
IsThere (Output i port) w = i < length w.team

abbrev pub EndsThere : Target → Parties → Type 0
EndsThere (Place i place) w = i < length w.team
EndsThere (Outlet o) w = Unit {0}

-- the next put is on this channel
abbrev pub is_next : Option ℕ → ℕ → Bool
is_next None c = false
is_next (Some d) c = nat_eq d c

-- the same processes, the same to put, and the same at the own outputs
pub record AreSame (v w : Parties) : Type 0 where
  pub team : w.team ≡ v.team
  pub inputs : inputs_of w.inlets.items ≡ inputs_of v.inlets.items
  pub outlets : w.outlets.items ≡ v.outlets.items

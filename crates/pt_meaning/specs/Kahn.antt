-- One firing of a composite whose children are stream functions: the scheme of SDF and PN (Kahn 1974). States and all tokens left are kept for the next firing.
use Rattle.std.specs.Prelude.{ℕ, suc, List, [], ◌∷◌, ◌++◌, Bool, true, false, ◌&&◌, length, take, drop}
use Rattle.pt_meaning.specs.Tag.{Tag}
use Rattle.pt_meaning.specs.Streams.{Streams, at, same_lengths}
use Rattle.pt_meaning.specs.Log.{Log, log_below}
use Rattle.pt_meaning.specs.Machine.{Fault, Outcome, Done, Stuck, Stepping, Facts}
use Rattle.pt_meaning.specs.Flow.{Stop, Lacking, Ended, Capped, Stopped, Flow}
use Rattle.pt_meaning.specs.Net.{Source, Own, Output, Net, Inside, prefixed}
use Rattle.pt_meaning.specs.Rounds.{Limit, flows, round, all_at_rest}

-- what has arrived for a channel: the tokens of the own input at which it begins
abbrev pub arrival : {T : Type 0} → Source → Streams T → List T
arrival (Own port) inputs = at inputs port
arrival (Output child port) inputs = []

-- what the channels hold once the inputs have arrived
abbrev pub arrived : {T : Type 0} → List Source → Streams T → Streams T → Streams T
arrived [] inputs X = X
arrived (c ∷ cs) inputs [] = []
arrived (c ∷ cs) inputs (xs ∷ X) = (xs ++ arrival c inputs) ∷ arrived cs inputs X

-- the stuck places of a child
abbrev pub stop_faults : Stop → List Fault
stop_faults Lacking = []
stop_faults Ended = []
stop_faults Capped = []
stop_faults (Stopped faults) = faults

-- where the children are stuck, from child i on
abbrev pub faults_of : {T S : Type 0} → ℕ → List (Flow T S) → List Fault
faults_of i [] = []
faults_of i (f ∷ fs) = prefixed i (stop_faults f.stop) ++ faults_of (suc i) fs

-- the logs of the children
abbrev pub logs_of : {T S : Type 0} → List (Flow T S) → List (Log T)
logs_of [] = []
logs_of (f ∷ fs) = f.log ∷ logs_of fs

-- the states of the children
abbrev pub states_of : {T S : Type 0} → List (Flow T S) → List S
states_of [] = []
states_of (f ∷ fs) = f.state ∷ states_of fs

-- the tokens that the children left, place by place
abbrev pub left_by : {T S : Type 0} → List (Flow T S) → Streams T
left_by [] = []
left_by (f ∷ fs) = f.left ++ left_by fs

-- what a list of the channels has behind the places of the children: for those to the own outputs, and for those that end nowhere
abbrev pub skip_places : {A : Type 0} → List ℕ → List A → List A
skip_places [] X = X
skip_places (n ∷ ns) X = skip_places ns (drop n X)

-- the first n of each
abbrev pub firsts : {T : Type 0} → List ℕ → Streams T → Streams T
firsts [] X = []
firsts (n ∷ ns) [] = []
firsts (n ∷ ns) (xs ∷ X) = take n xs ∷ firsts ns X

-- what is behind the first n of each
abbrev pub behind : {T : Type 0} → List ℕ → Streams T → Streams T
behind [] X = []
behind (n ∷ ns) [] = []
behind (n ∷ ns) (xs ∷ X) = drop n xs ∷ behind ns X

-- how many tokens each channel holds
abbrev pub lengths : {T : Type 0} → Streams T → List ℕ
lengths [] = []
lengths (xs ∷ X) = length xs ∷ lengths X

-- done where the condition holds, else stuck at these places, with the same log
abbrev pub if_settled : {T S : Type 0} → Bool → Inside (Streams T) S → Streams T → Log T → List Fault → Outcome T (Inside (Streams T) S)
if_settled true c out l faults = Done c out l
if_settled false c out l faults = Stuck faults l

-- What a firing takes from the channels behind the places of the children, by how many tokens each of them has: how many each own output gives, and how many are gone from each of these channels.
pub record Leaving : Type 0 where
  pub given : List ℕ → List ℕ
  pub gone : List ℕ → List ℕ

-- The firing at round k, whose stream functions are fs on the channels X: the own outputs give the tokens that leave, and what doesn't leave is kept.
abbrev pub firing : {T S : Type 0} → Bool → Leaving → List ℕ → List (Flow T S) → Streams T → Outcome T (Inside (Streams T) S)
firing settled leaving places fs X =
    let Y = skip_places places X in
    let ns = lengths Y in
    if_settled settled (record { held = left_by fs ++ behind (leaving.gone ns) Y; kids = states_of fs }) (firsts (leaving.given ns) Y) (log_below (logs_of fs)) (faults_of 0 fs)

module _ {T S : Type 0} (facts : Facts T S) (step : Stepping T S) (tag : Tag) where
  -- Round k is settled: no channel gets more in the next round, and each child is at rest. Each round is the beginning of the next, so that equal lengths are equal lists.
  abbrev pub settled : Net → List Limit → List S → Streams T → ℕ → Bool
  settled net limits kids X k =
      same_lengths (round facts step tag net limits kids X k) (round facts step tag net limits kids X (suc k)) &&
      all_at_rest limits (flows facts step tag net.places limits k kids (round facts step tag net limits kids X k))

  -- the firing at round k: it is done where the round is settled and the children fired enough
  unfoldable pub kahn : Net → List Limit → (List (Flow T S) → Bool) → Leaving → List S → Streams T → ℕ → Outcome T (Inside (Streams T) S)
  kahn net limits enough leaving kids X k =
      let Y = round facts step tag net limits kids X k in
      let fs = flows facts step tag net.places limits k kids Y in
      firing (settled net limits kids X k && enough fs) leaving net.places fs Y

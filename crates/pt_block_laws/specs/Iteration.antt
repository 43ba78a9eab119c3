-- A firing of a dataflow net in which each child makes all its firings on the inputs that it gets in all, the children one behind another.
use Rattle.std.specs.Prelude.{◌≡◌, ℕ, suc, max, ◌+◌, ◌*◌, ◌<◌, ◌≤◌, List, [], ◌∷◌, ◌++◌, length, take, drop, get_or, true}
use Rattle.pt_meaning.specs.Tag.{Tag}
use Rattle.pt_meaning.specs.Streams.{Streams, at}
use Rattle.pt_meaning.specs.Log.{Log, log_below}
use Rattle.pt_meaning.specs.Machine.{Done, Stepping, Facts}
use Rattle.pt_meaning.specs.Flow.{Flow}
use Rattle.pt_meaning.specs.Net.{Source, Own, Output, Net}
use Rattle.pt_meaning.specs.Kahn.{Leaving, kahn, skip_places, lengths, firsts, behind}
use Rattle.pt_meaning.specs.Sdf.{sdf_limits, fired_all}
use Rattle.pt_meaning.specs.Running.{total}
use Rattle.pt_meaning.specs.Closed.{Has}
use Rattle.pt_block_laws.specs.Firings.{Firings, gathered, before, AreMade, logged}

-- where the places of child i begin
abbrev pub first_place : (places : List ℕ) → ℕ → ℕ
first_place places i = total (take i places)

-- a channel gets what some of these children give, or nothing more than it holds
abbrev pub IsFedBy : List ℕ → Source → Type 0
IsFedBy done (Own port) = Unit {0}
IsFedBy done (Output j port) = Has j done

-- each child of the list is one of the net, and is fed by those behind it in the list alone: the last one fires first
abbrev pub IsInOrder : Net → List ℕ → Type 0
IsInOrder net [] = Unit {0}
IsInOrder net (i ∷ done) =
    (i < length net.places) ×
    ((p : ℕ) → p < get_or net.places i 0 → IsFedBy done (get_or net.sources (first_place net.places i + p) (Own 0))) ×
    IsInOrder net done

module _ {T S : Type 0} where
  -- what a channel gets where the children make these firings
  abbrev pub given_on : (turns : ℕ) → List ℕ → (ℕ → Firings T S) → Source → List T
  given_on turns qs does (Own port) = []
  given_on turns qs does (Output j port) = at (gathered (turns * get_or qs j 0) (does j).gives) port

  -- the states of the children after their firings, child by child, and what they log
  abbrev pub states_after : (turns : ℕ) → List ℕ → (ℕ → Firings T S) → List S
  states_after turns [] does = []
  states_after turns (q ∷ qs) does = (does 0).state (turns * q) ∷ states_after turns qs (λ i. does (suc i))

  abbrev pub all_logged : Facts T S → Tag → (turns : ℕ) → List ℕ → (ℕ → Firings T S) → List (Log T)
  all_logged facts tag turns [] does = []
  all_logged facts tag turns (q ∷ qs) does = logged facts tag (turns * q) (does 0) ∷ all_logged facts tag turns qs (λ i. does (suc i))

-- what the children leave on their places
abbrev pub lefts : {T : Type 0} → List ℕ → (ℕ → Streams T) → Streams T
lefts [] left = []
lefts (q ∷ qs) left = left 0 ++ lefts qs (λ i. left (suc i))

-- Child i begins in its first state, makes so many firings, and takes in them what its places get in all, but for what is left there.
pub record MakesAll {T S : Type 0} (facts : Facts T S) (step : Stepping T S) (tag : Tag) (turns : ℕ) (places qs : List ℕ) (rates : List (List ℕ)) (kids : List S) (all : Streams T) (needs : ℕ → List ℕ) (does : ℕ → Firings T S) (left : ℕ → Streams T) (i : ℕ) : Type 0 where
  pub begins : (d : S) → get_or kids i d ≡ (does i).state 0
  pub made : AreMade facts step tag (needs i) (get_or rates i []) (turns * get_or qs i 0) (does i)
  pub wide : length (left i) ≡ length (needs i)
  pub takes : take (get_or places i 0) (drop (first_place places i) all) ≡ before (turns * get_or qs i 0) (does i).takes (left i)

-- The children of a net make their firings, those of `turns` iterations: each channel begins with what start has, and gets all in the end. The children of the list are in order, and feed all channels that get something.
pub record IsIteration {T S : Type 0} (facts : Facts T S) (step : Stepping T S) (tag : Tag) (turns : ℕ) (net : Net) (qs : List ℕ) (rates : List (List ℕ)) (kids : List S) (start all : Streams T) (needs : ℕ → List ℕ) (does : ℕ → Firings T S) (left : ℕ → Streams T) (order : List ℕ) : Type 0 where
  pub repetitions : length qs ≡ length net.places
  pub rated : length rates ≡ length net.places
  pub children : length kids ≡ length net.places
  pub started : length start ≡ length net.sources
  pub channels : length all ≡ length net.sources
  pub placed : total net.places ≤ length net.sources
  pub make : (i : ℕ) → i < length net.places → MakesAll facts step tag turns net.places qs rates kids all needs does left i
  pub fed : (c : ℕ) → c < length net.sources → at all c ≡ at start c ++ given_on turns qs does (get_or net.sources c (Own 0))
  pub ordered : IsInOrder net order
  pub complete : (c : ℕ) → c < length net.sources → IsFedBy order (get_or net.sources c (Own 0))

-- a number that each child's firings are at most
abbrev pub most : (turns : ℕ) → List ℕ → ℕ
most turns [] = 0
most turns (q ∷ qs) = max (turns * q) (most turns qs)

-- so many rounds are enough for the children of the list, and for all
abbrev pub rounds_for : (turns : ℕ) → List ℕ → (order : List ℕ) → ℕ
rounds_for turns qs [] = 0
rounds_for turns qs (i ∷ done) = max (suc (rounds_for turns qs done)) (turns * get_or qs i 0)

abbrev pub fuel_for : (turns : ℕ) → List ℕ → (order : List ℕ) → ℕ
fuel_for turns qs order = max (rounds_for turns qs order) (most turns qs)

-- The firing of the net is done then, at enough fuel.
abbrev pub IterationIsDone : Type 0 → Type 0 → Type 0
IterationIsDone T S = (facts : Facts T S) (step : Stepping T S) (tag : Tag) (turns : ℕ) (net : Net) (qs : List ℕ) (rates : List (List ℕ)) (kids : List S) (start all : Streams T) (needs : ℕ → List ℕ) (does : ℕ → Firings T S) (left : ℕ → Streams T) (order : List ℕ) →
    IsIteration facts step tag turns net qs rates kids start all needs does left order → (leaving : Leaving) → (k : ℕ) → fuel_for turns qs order ≤ k →
    let own = skip_places net.places all in
    kahn facts step tag net (sdf_limits turns qs rates) (fired_all turns qs) leaving kids start k ≡
    Done (record { held = lefts qs left ++ behind (leaving.gone (lengths own)) own; kids = states_after turns qs does }) (firsts (leaving.given (lengths own)) own) (log_below (all_logged facts tag turns qs does))

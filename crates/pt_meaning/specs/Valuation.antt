-- The least valuation at a tag, by approximations from what is unknown: the scheme of SR and DE (Edwards & Lee 2003, "The semantics and execution of a synchronous block-diagram language"; the book, "Synchronous-Reactive Models").
use Rattle.std.specs.Prelude.{ℕ, zero, suc, List, [], ◌∷◌, ◌++◌, Bool, true, false, ◌&&◌, ◌||◌, not, Option, Some, None, take, drop}
use Rattle.pt_meaning.specs.Tag.{Tag}
use Rattle.pt_meaning.specs.Streams.{Streams, at}
use Rattle.pt_meaning.specs.Log.{Log, silent, log_below}
use Rattle.pt_meaning.specs.Machine.{Fault, Outcome, Done, Stuck, Stepping, Partial, Unknown, Known, partial_at}
use Rattle.pt_meaning.specs.Net.{Source, Own, Output, Net, Inside, prefixed}
use Rattle.pt_meaning.specs.Kahn.{if_settled}

-- the inputs of a child, where each is known
abbrev pub known_then : {T : Type 0} → Partial T → Option (Streams T) → Option (Streams T)
known_then v None = None
known_then Unknown (Some X) = None
known_then (Known xs) (Some X) = Some (xs ∷ X)

-- the inputs of a child, where each is known
abbrev pub known : {T : Type 0} → List (Partial T) → Option (Streams T)
known [] = Some []
known (v ∷ vs) = known_then v (known vs)

-- a child at a tag: it waits for an input, it was not active, it fired, or it is stuck
pub data Phase : Type 0 where
  Waits : Phase
  Rests : Phase
  Fired : Phase
  StuckAt : List Fault → Phase

-- what a child gives at a tag, its state and its log after it, and how it stands
pub record Reaction (T S : Type 0) : Type 0 where
  pub outputs : ℕ → Partial T
  pub state : S
  pub log : Log T
  pub phase : Phase

-- At a tag a child may be active or not; under SR each is.
abbrev pub Activity : Type 0 → Type 0 → Type 0
Activity T S = Tag → S → Streams T → Bool

-- what a child gives early, from what is known
abbrev pub Earliness : Type 0 → Type 0 → Type 0
Earliness T S = Tag → S → List (Partial T) → List (Partial T)

-- A turn is all that an active child fires at the tag, once its inputs are known. Its log holds the child's own records.
module _ {T S : Type 0} (early : Earliness T S) (active : Activity T S) (turn : Stepping T S) (tag : Tag) where
  -- an active child whose inputs are known gives the outputs of its turn where that is done, else its early answer
  abbrev pub reacted : S → List (Partial T) → Outcome T S → Reaction T S
  reacted s vs (Done s' out l) = record { outputs = λ p. Known (at out p); state = s'; log = l; phase = Fired }
  reacted s vs (Stuck fs l) = record { outputs = partial_at (early tag s vs); state = s; log = l; phase = StuckAt fs }

  -- one that is not active gives nothing, keeps its state and leaves no record
  abbrev pub if_active : Bool → S → List (Partial T) → Streams T → Reaction T S
  if_active true s vs X = reacted s vs (turn tag s X)
  if_active false s vs X = record { outputs = λ p. Known []; state = s; log = silent; phase = Rests }

  -- while an input is unknown a child gives its early answer
  abbrev pub on_known : S → List (Partial T) → Option (Streams T) → Reaction T S
  on_known s vs None = record { outputs = partial_at (early tag s vs); state = s; log = silent; phase = Waits }
  on_known s vs (Some X) = if_active (active tag s X) s vs X

  -- the reaction of a child to what is known of its inputs
  abbrev pub reaction : S → List (Partial T) → Reaction T S
  reaction s vs = on_known s vs (known vs)

  -- the reactions of the children to what is known of the channels
  abbrev pub reactions : List ℕ → List S → List (Partial T) → List (Reaction T S)
  reactions (n ∷ ns) (s ∷ ss) V = reaction s (take n V) ∷ reactions ns ss (drop n V)
  reactions [] ss V = []
  reactions (n ∷ ns) [] V = []

-- what is known of an output of a child
abbrev pub told_by : {T S : Type 0} → List (Reaction T S) → ℕ → ℕ → Partial T
told_by [] child port = Unknown
told_by (r ∷ rs) zero port = r.outputs port
told_by (r ∷ rs) (suc child) port = told_by rs child port

-- what is known of a channel: own inputs are known
abbrev pub value_of : {T S : Type 0} → List (Reaction T S) → Streams T → Source → Partial T
value_of rs inputs (Own port) = Known (at inputs port)
value_of rs inputs (Output child port) = told_by rs child port

-- what is known of each channel
abbrev pub valued : {T S : Type 0} → List (Reaction T S) → Streams T → List Source → List (Partial T)
valued rs inputs [] = []
valued rs inputs (c ∷ cs) = value_of rs inputs c ∷ valued rs inputs cs

-- nothing is known of any channel
abbrev pub unknowns : {T : Type 0} → List Source → List (Partial T)
unknowns [] = []
unknowns (c ∷ cs) = Unknown ∷ unknowns cs

-- something is known
abbrev pub is_known : {T : Type 0} → Partial T → Bool
is_known Unknown = false
is_known (Known xs) = true

-- no more is known in the second
abbrev pub no_more : {T : Type 0} → List (Partial T) → List (Partial T) → Bool
no_more [] [] = true
no_more (v ∷ vs) (w ∷ ws) = (is_known v || not (is_known w)) && no_more vs ws
no_more [] (w ∷ ws) = false
no_more (v ∷ vs) [] = false

-- the child has had its turn, or needs none
abbrev pub has_fired : Phase → Bool
has_fired Waits = false
has_fired Rests = true
has_fired Fired = true
has_fired (StuckAt fs) = false

-- the child is not stuck
abbrev pub is_free : Phase → Bool
is_free Waits = true
is_free Rests = true
is_free Fired = true
is_free (StuckAt fs) = false

-- each child has had its turn
abbrev pub all_fired : {T S : Type 0} → List (Reaction T S) → Bool
all_fired [] = true
all_fired (r ∷ rs) = has_fired r.phase && all_fired rs

-- no child is stuck
abbrev pub all_free : {T S : Type 0} → List (Reaction T S) → Bool
all_free [] = true
all_free (r ∷ rs) = is_free r.phase && all_free rs

-- the stuck places of a child
abbrev pub phase_faults : Phase → List Fault
phase_faults Waits = []
phase_faults Rests = []
phase_faults Fired = []
phase_faults (StuckAt fs) = fs

-- where the children are stuck, from child i on
abbrev pub reaction_faults : {T S : Type 0} → ℕ → List (Reaction T S) → List Fault
reaction_faults i [] = []
reaction_faults i (r ∷ rs) = prefixed i (phase_faults r.phase) ++ reaction_faults (suc i) rs

-- the logs of the children
abbrev pub reaction_logs : {T S : Type 0} → List (Reaction T S) → List (Log T)
reaction_logs [] = []
reaction_logs (r ∷ rs) = r.log ∷ reaction_logs rs

-- the states of the children
abbrev pub reaction_states : {T S : Type 0} → List (Reaction T S) → List S
reaction_states [] = []
reaction_states (r ∷ rs) = r.state ∷ reaction_states rs

-- the tokens of what is known
abbrev pub tokens_of : {T : Type 0} → List (Partial T) → Streams T
tokens_of [] = []
tokens_of (Unknown ∷ vs) = [] ∷ tokens_of vs
tokens_of (Known xs ∷ vs) = xs ∷ tokens_of vs

-- the channels behind the places of the children: those to the own outputs
abbrev pub skip : {T : Type 0} → List ℕ → List (Partial T) → List (Partial T)
skip [] V = V
skip (n ∷ ns) V = skip ns (drop n V)

-- the places told where a channel stays unknown, though no child is stuck
abbrev pub told_if : Bool → List Fault → List Fault
told_if true blame = blame
told_if false blame = []

module _ {T S : Type 0} (early : Earliness T S) (active : Activity T S) (turn : Stepping T S) (tag : Tag) where
  -- what is known of the channels after each child has reacted
  abbrev pub react_all : Net → List S → Streams T → List (Partial T) → List (Partial T)
  react_all net kids inputs V = valued (reactions early active turn tag net.places kids V) inputs net.sources

  -- what is known after each child has reacted k times
  unfoldable pub valuation : Net → List S → Streams T → ℕ → List (Partial T)
  valuation net kids inputs zero = unknowns net.sources
  valuation net kids inputs (suc k) = react_all net kids inputs (valuation net kids inputs k)

  -- the next valuation knows no more, so this one is the least that has each producer's reaction
  abbrev pub is_least : Net → List S → Streams T → ℕ → Bool
  is_least net kids inputs k = no_more (valuation net kids inputs k) (valuation net kids inputs (suc k))

  -- one tick: it is done where the valuation is the least and each child has fired
  unfoldable pub tick : Net → List Fault → List S → Streams T → ℕ → Outcome T (Inside (Streams T) S)
  tick net blame kids inputs k =
      let V = valuation net kids inputs k in
      let rs = reactions early active turn tag net.places kids V in
      let least = is_least net kids inputs k in
      if_settled (least && all_fired rs) (record { held = []; kids = reaction_states rs }) (tokens_of (skip net.places V)) (log_below (reaction_logs rs))
      (reaction_faults 0 rs ++ told_if (least && (all_free rs && not (all_fired rs))) blame)

-- a net of SR or DE, and the number of own inputs
pub record TickPlan : Type 0 where
  pub net : Net
  pub inputs : ℕ

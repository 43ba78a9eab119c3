-- Directors that only move tokens: in a firing of the composite each token that a child takes, that a channel is left with, or that comes to an own output was given by the source of its channel, or stood there at the start.
use Rattle.std.specs.Prelude.{◌≡◌, ℕ, ◌+◌, ◌≤◌, List, [], ◌∷◌, length, Some}
use Rattle.pt_meaning.specs.Basics.{Tag, Streams, at, Log, Path, Event, Finished, Met}
use Rattle.pt_meaning.specs.Streams.{get}
use Rattle.pt_meaning.specs.Machine.{Outcome, Done, Stuck, Stepping, Facts, Partial, Known, partial_at, recorded}
use Rattle.pt_meaning.specs.Net.{Source, Own, Output, Net, Inside}
use Rattle.pt_meaning.specs.Running.{total}
use Rattle.pt_meaning.specs.Closed.{Has, first_channel}
use Rattle.pt_laws.specs.LogsOfRuns.{log_in}
use Rattle.pt_laws.specs.SoundRuns.{count_at}

-- a token stands on a channel, where the director keeps a stream for each
abbrev pub On : {T : Type 0} → Streams T → (channel : ℕ) → T → Type 0
On X c x = Has x (at X c)

-- an event is a meeting, and no firing
abbrev pub IsMeeting : {T : Type 0} → Event T → Type 0
IsMeeting (Finished within f) = ⊥
IsMeeting (Met within i m) = Unit {0}

-- A composite as a firing of it begins: the steps of its children, which all fire at its tag, its channels and which tokens stand on them, and the inputs.
-- What may come of it is what follows by these rules alone, so that nothing is there without a cause that came before it.
module _ {T S : Type 0} (facts : Facts T S) (step : Stepping T S) (tag : Tag) (net : Net) (kids : List S) (Stands : (channel : ℕ) → T → Type 0) (inputs : Streams T) where
  mutual
    -- a token may come to a channel: it stood there at the start, or the channel's source may give it
    pub data MayCome : (channel : ℕ) → T → Type 0 where
      stood : (c : ℕ) (x : T) → Stands c x → MayCome c x
      given : (c : ℕ) (s : Source) (x : T) → get net.sources c ≡ Some s → MayGive s x → MayCome c x

    -- a source may give it: it comes to the own input; or a child gives it, in a firing or early
    pub data MayGive : Source → T → Type 0 where
      arrives : (port : ℕ) (x : T) → Has x (at inputs port) → MayGive (Own port) x
      fires : (i port : ℕ) (s z : S) (X out : Streams T) (l : Log T) (x : T) → MayTake i s X → step tag s X ≡ Done z out l → Has x (at out port) → MayGive (Output i port) x
      tells : (i port : ℕ) (s : S) (vs : List (Partial T)) (xs : List T) (x : T) → MayKnow i s vs → partial_at (facts.early tag s vs) port ≡ Known xs → Has x xs → MayGive (Output i port) x

    -- a child may stand in a state: its first, or that after a firing
    pub data MayStand : (child : ℕ) → S → Type 0 where
      begins : (i : ℕ) (s : S) → get kids i ≡ Some s → MayStand i s
      goes_on : (i : ℕ) (s z : S) (X out : Streams T) (l : Log T) → MayTake i s X → step tag s X ≡ Done z out l → MayStand i z

    -- a child that stands so may take these: a list for each of its places, of tokens that may come there
    pub data MayTake : (child : ℕ) → S → Streams T → Type 0 where
      takes : (i : ℕ) (s : S) (X : Streams T) → MayStand i s → length X ≡ count_at net.places i → ((q : ℕ) (x : T) → Has x (at X q) → MayCome (first_channel net.places i + q) x) → MayTake i s X

    -- and this may be known of its places
    pub data MayKnow : (child : ℕ) → S → List (Partial T) → Type 0 where
      knows : (i : ℕ) (s : S) (vs : List (Partial T)) → MayStand i s → length vs ≡ count_at net.places i → ((q : ℕ) (xs : List T) (x : T) → partial_at vs q ≡ Known xs → Has x xs → MayCome (first_channel net.places i + q) x) → MayKnow i s vs

  -- an event that a child may log, at a path within it: it is of a firing of the child on what it may take, whether that is finished or not
  abbrev pub MayLog : (child : ℕ) → Path → Event T → Type 0
  MayLog i p e = (s : S) × (X : Streams T) × MayTake i s X × Has e (log_in (recorded (facts.made s) tag X (step tag s X)) p)

  -- the director holds H between firings: which tokens stand on channels then, and how it has to be
  module _ {H : Type 0} (After : H → (channel : ℕ) → T → Type 0) (IsKept : H → Type 0) where
    -- A firing that is done: the children stand as they may, the channels are left with tokens that may come there, and the own outputs, which are so many, give what may come to theirs.
    pub record MovedTo (outputs : ℕ) (x : Inside H S) (out : Streams T) : Type 0 where
      pub kids_counted : length x.kids ≡ length kids
      pub stand : (i : ℕ) (s : S) → get x.kids i ≡ Some s → MayStand i s
      pub kept : IsKept x.held
      pub left : (c : ℕ) (y : T) → After x.held c y → MayCome c y
      pub outputs_counted : length out ≤ outputs
      pub gave : (port : ℕ) (y : T) → Has y (at out port) → MayCome (total net.places + port) y

    -- so it is where the firing is done
    abbrev pub IfMoved : ℕ → Outcome T (Inside H S) → Type 0
    IfMoved outputs (Done x out l) = MovedTo outputs x out
    IfMoved outputs (Stuck fs l) = Unit {0}

    -- A firing that only moves tokens, done or stuck: at its own path meetings alone are logged, and below each child what the child may log.
    pub record OnlyMoves (outputs : ℕ) (r : Outcome T (Inside H S)) : Type 0 where
      pub quiet : (e : Event T) → Has e (log_in r []) → IsMeeting e
      pub logged : (i : ℕ) (p : Path) (e : Event T) → Has e (log_in r (i ∷ p)) → MayLog i p e
      pub done : IfMoved outputs r

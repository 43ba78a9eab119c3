-- A tick of SR or DE in the middle: what is known of the channels so far, in whatever order the children fire.
use Rattle.std.specs.Prelude.{◌≡◌, ◌⊎◌, ℕ, ◌≤◌, ◌<◌, List, [], ◌∷◌, true, false, length, Option, Some, None, take, drop, get_or}
use Rattle.pt_meaning.specs.Basics.{Tag, Streams, at, Log, LogBelow, silent, log_below}
use Rattle.pt_meaning.specs.Machine.{Fault, Done, Stuck, Stepping, Partial, Known, partial_at}
use Rattle.pt_meaning.specs.Rounds.{Source, Own, Output, Net}
use Rattle.pt_meaning.specs.Tick.{Activity, Earliness, known, reaction, unknowns, valuation, tokens_of, tick}
use Rattle.pt_meaning.specs.Modal.{get}
use Rattle.pt_meaning.specs.Running.{total}
use Rattle.pt_laws.specs.LogsOfRuns.{log_at, log_in}
use Rattle.pt_meaning.specs.Laws.{IsIn, PartialBelow, KnownBelow, KeepsEarly}

-- what stands at the places of child i
abbrev pub places_at : {B : Type 0} → List ℕ → ℕ → List B → List B
places_at ns i V = take (get_or ns i 0) (drop (total (take i ns)) V)

-- What is known so far comes of the reactions, by some round.
pub record TickRun {T S : Type 0} (early : Earliness T S) (active : Activity T S) (turn : Stepping T S) (tag : Tag) (net : Net) (kids : List S) (inputs : Streams T) (V : List (Partial T)) : Type 0 where
  pub rounds : ℕ
  pub caused : KnownBelow V (valuation early active turn tag net kids inputs rounds)

-- With its inputs known a child has fired, or was not active and rests. It has come to the state s', has given out, and has logged l.
abbrev pub HasFired : {T S : Type 0} → Activity T S → Stepping T S → Tag → S → List (Partial T) → S → Streams T → Log T → Type 0
HasFired {T} active turn tag s vs s' out l =
    (X : Streams T) × (known vs ≡ Some X) × (((active tag s X ≡ true) × (turn tag s X ≡ Done s' out l)) ⊎ ((active tag s X ≡ false) × (s' ≡ s) × (out ≡ []) × (l ≡ silent)))

-- a child that waits for an input has its state, and has logged nothing
abbrev pub IsWaiting : {T S : Type 0} → S → List (Partial T) → S → Log T → Type 0
IsWaiting s vs s' l = (known vs ≡ None) × (s' ≡ s) × (l ≡ silent)

module _ {T S : Type 0} (early : Earliness T S) (active : Activity T S) (turn : Stepping T S) (tag : Tag) (net : Net) (kids : List S) (inputs : Streams T) (d : S) where
  -- what the source of a channel tells of it, from what is known
  abbrev pub told_of : List (Partial T) → Source → Partial T
  told_of V (Own port) = Known (at inputs port)
  told_of V (Output i port) = (reaction early active turn tag (get_or kids i d) (places_at net.places i V)).outputs port

  -- a channel is no better known than its source tells, or than it was before
  abbrev pub MayKnow : List (Partial T) → List (Partial T) → ℕ → Option Source → Type 0
  MayKnow V W c None = Unit {0}
  MayKnow V W c (Some (Own port)) = (partial_at W c ≡ partial_at V c) ⊎ PartialBelow (partial_at W c) (Known (at inputs port))
  MayKnow V W c (Some (Output i port)) = (partial_at W c ≡ partial_at V c) ⊎ ((i < length net.places) × PartialBelow (partial_at W c) (told_of V (Output i port)))

  -- a channel is known as well as its source tells
  abbrev pub Knows : List (Partial T) → ℕ → Option Source → Type 0
  Knows V c None = Unit {0}
  Knows V c (Some (Own port)) = partial_at V c ≡ Known (at inputs port)
  Knows V c (Some (Output i port)) = i < length net.places → PartialBelow (told_of V (Output i port)) (partial_at V c)

  -- how child i stands, with a list each of states, outputs and logs
  abbrev pub FiredAt : List (Partial T) → List S → List (Streams T) → List (Log T) → ℕ → Type 0
  FiredAt V news outs ls i = HasFired active turn tag (get_or kids i d) (places_at net.places i V) (get_or news i d) (get_or outs i []) (log_at ls i)

  abbrev pub FiredOrWaits : List (Partial T) → List S → List (Streams T) → List (Log T) → ℕ → Type 0
  FiredOrWaits V news outs ls i = FiredAt V news outs ls i ⊎ IsWaiting (get_or kids i d) (places_at net.places i V) (get_or news i d) (log_at ls i)

  -- child i has logged no more than its turn logs, where it has had one
  abbrev pub LoggedAt : List (Partial T) → List (Log T) → ℕ → Type 0
  LoggedAt V ls i = LogBelow (log_at ls i) silent ⊎ ((X : Streams T) × (known (places_at net.places i V) ≡ Some X) × (active tag (get_or kids i d) X ≡ true) × LogBelow (log_at ls i) (log_in (turn tag (get_or kids i d) X)))

-- as many of each as there are children
pub record IsWide {T S : Type 0} (net : Net) (kids news : List S) (ls : List (Log T)) : Type 0 where
  pub kids_are : length kids ≡ length net.places
  pub news_are : length news ≡ length net.places
  pub logs_are : length ls ≡ length net.places

-- An engine begins with nothing known. It sets channels from own inputs, and from what children give once their inputs are known, or early: in any order, and as many at a time as it likes.
-- What a child tells is read off how it stands (`ReactionIs`). Where each channel is known as well as its source tells, the tick is what its reactions come to.
abbrev pub TickBegins : Type 0 → Type 0 → Type 0
TickBegins T S = (early : Earliness T S) (active : Activity T S) (turn : Stepping T S) (tag : Tag) (net : Net) (kids : List S) (inputs : Streams T) → TickRun early active turn tag net kids inputs (unknowns net.sources)

abbrev pub TickGoesOn : Type 0 → Type 0 → Type 0
TickGoesOn T S = (early : Earliness T S) (active : Activity T S) (turn : Stepping T S) (tag : Tag) → KeepsEarly early active turn → (net : Net) (kids : List S) (inputs : Streams T) (d : S) → length kids ≡ length net.places → (V W : List (Partial T)) →
    TickRun early active turn tag net kids inputs V → length W ≡ length net.sources → ((c : ℕ) → c < length net.sources → MayKnow early active turn tag net kids inputs d V W c (get net.sources c)) → TickRun early active turn tag net kids inputs W

-- what a child tells where it has fired or rests, and where it waits
pub record ReactionIs (T S : Type 0) : Type 0 where
  pub fired : (early : Earliness T S) (active : Activity T S) (turn : Stepping T S) (tag : Tag) (s : S) (vs : List (Partial T)) (s' : S) (out : Streams T) (l : Log T) → HasFired active turn tag s vs s' out l → (port : ℕ) → (reaction early active turn tag s vs).outputs port ≡ Known (at out port)
  pub waiting : (early : Earliness T S) (active : Activity T S) (turn : Stepping T S) (tag : Tag) (s : S) (vs : List (Partial T)) → known vs ≡ None → (port : ℕ) → (reaction early active turn tag s vs).outputs port ≡ partial_at (early tag s vs) port

-- where each child has fired or rests the tick is done, at each fuel from the number of channels on
abbrev pub TickEnds : Type 0 → Type 0 → Type 0
TickEnds T S = (early : Earliness T S) (active : Activity T S) (turn : Stepping T S) (tag : Tag) → KeepsEarly early active turn → (net : Net) (blame : List Fault) (kids : List S) (inputs : Streams T) (d : S) (V : List (Partial T)) (news : List S) (outs : List (Streams T)) (ls : List (Log T)) →
    TickRun early active turn tag net kids inputs V → IsWide net kids news ls → ((c : ℕ) → c < length net.sources → Knows early active turn tag net kids inputs d V c (get net.sources c)) →
    ((i : ℕ) → i < length net.places → FiredAt early active turn tag net kids inputs d V news outs ls i) → (k : ℕ) → length net.sources ≤ k →
    tick early active turn tag net blame kids inputs k ≡ Done (record { held = []; kids = news }) (tokens_of (drop (total net.places) V)) (log_below ls)

-- where some wait, and none is stuck, it is stuck at the places that are told then
abbrev pub TickLacks : Type 0 → Type 0 → Type 0
TickLacks T S = (early : Earliness T S) (active : Activity T S) (turn : Stepping T S) (tag : Tag) → KeepsEarly early active turn → (net : Net) (blame : List Fault) (kids : List S) (inputs : Streams T) (d : S) (V : List (Partial T)) (news : List S) (outs : List (Streams T)) (ls : List (Log T)) →
    TickRun early active turn tag net kids inputs V → IsWide net kids news ls → ((c : ℕ) → c < length net.sources → Knows early active turn tag net kids inputs d V c (get net.sources c)) →
    ((i : ℕ) → i < length net.places → FiredOrWaits early active turn tag net kids inputs d V news outs ls i) → (w : ℕ) → w < length net.places → known (places_at net.places w V) ≡ None → (k : ℕ) → length net.sources ≤ k →
    tick early active turn tag net blame kids inputs k ≡ Stuck blame (log_below ls)

-- where a child is stuck in its turn, so is the tick, at that place
abbrev pub TickSticks : Type 0 → Type 0 → Type 0
TickSticks T S = (early : Earliness T S) (active : Activity T S) (turn : Stepping T S) (tag : Tag) → KeepsEarly early active turn → (net : Net) (blame : List Fault) (kids : List S) (inputs : Streams T) (d : S) (V : List (Partial T)) → length kids ≡ length net.places →
    TickRun early active turn tag net kids inputs V → (i : ℕ) → i < length net.places → (X : Streams T) → known (places_at net.places i V) ≡ Some X → active tag (get_or kids i d) X ≡ true → (fs : List Fault) (l : Log T) → turn tag (get_or kids i d) X ≡ Stuck fs l →
    (f : Fault) → IsIn f fs → (k : ℕ) → length net.sources ≤ k →
    (gs : List Fault) × (n : Log T) × (tick early active turn tag net blame kids inputs k ≡ Stuck gs n) × IsIn (record { path = i ∷ f.path; firing = f.firing; code = f.code }) gs

-- what the children have logged in the middle is the beginning of the tick's log
abbrev pub TickIsPrefix : Type 0 → Type 0 → Type 0
TickIsPrefix T S = (early : Earliness T S) (active : Activity T S) (turn : Stepping T S) (tag : Tag) → KeepsEarly early active turn → (net : Net) (blame : List Fault) (kids : List S) (inputs : Streams T) (d : S) (V : List (Partial T)) (ls : List (Log T)) →
    length kids ≡ length net.places → length ls ≡ length net.places → TickRun early active turn tag net kids inputs V → ((i : ℕ) → i < length net.places → LoggedAt early active turn tag net kids inputs d V ls i) → (k : ℕ) → length net.sources ≤ k →
    LogBelow (log_below ls) (log_in (tick early active turn tag net blame kids inputs k))

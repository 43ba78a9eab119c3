-- Logs: which firings of a model were finished, and which meetings were made. In a log only the order within one path counts.
use Rattle.std.specs.Prelude.{ℕ, zero, suc, List, [], ◌∷◌, ◌++◌, Bool, true, false, nat_eq}
use Rattle.pt_meaning.specs.Tag.{Tag}
use Rattle.pt_meaning.specs.Streams.{IsPrefix, Streams, at}

-- a path is the numbers of the children from the node down
abbrev pub Path : Type 0
Path = List ℕ

-- one finished firing: its number among those of its path, its tag, what it took and what it gave
pub record Firing (T : Type 0) : Type 0 where
  pub number : ℕ
  pub tag : Tag
  pub inputs : Streams T
  pub outputs : Streams T

-- a meeting of a Rendezvous composite: on a channel, or of a Barrier on all its channels at once
pub data Meeting : Type 0 where
  Channel : ℕ → Meeting
  Barrier : ℕ → Meeting

-- What a log tells of a path: a firing that is finished, or a meeting that was made in the firing of that number.
-- Each is told with the numbers of the firings, of the composites round it from the node down, within which it came.
pub data Event (T : Type 0) : Type 0 where
  Finished : (within : List ℕ) → Firing T → Event T
  Met : (within : List ℕ) → ℕ → Meeting → Event T

-- The events of each path, in order. The meetings of a composite stand at the composite's own path, before the firing in which they were made.
abbrev pub Log : Type 0 → Type 0
Log T = Path → List (Event T)

-- nothing was finished
abbrev pub silent : {T : Type 0} → Log T
silent p = []

-- one log, and then another
abbrev pub log_then : {T : Type 0} → Log T → Log T → Log T
log_then l m = λ p. l p ++ m p

-- the node's own firing
abbrev pub own : {T : Type 0} → Firing T → Log T
own f [] = Finished [] f ∷ []
own f (i ∷ p) = []

-- the log of a list of children, each below its number
abbrev pub log_below : {T : Type 0} → List (Log T) → Log T
log_below ls [] = []
log_below [] (i ∷ p) = []
log_below (l ∷ ls) (zero ∷ p) = l p
log_below (l ∷ ls) (suc i ∷ p) = log_below ls (i ∷ p)

-- one log is the beginning of another where it is so path by path
abbrev pub LogBelow : {T : Type 0} → Log T → Log T → Type 0
LogBelow l m = (p : Path) → IsPrefix (l p) (m p)

-- tokens, each with the tag of its firing
abbrev pub with_tag : {T : Type 0} → Tag → List T → List (Tag × T)
with_tag t [] = []
with_tag t (x ∷ xs) = (t, x) ∷ with_tag t xs

-- the tokens that the firings gave on a port
abbrev pub given_on : {T : Type 0} → ℕ → List (Event T) → List (Tag × T)
given_on port [] = []
given_on port (Finished ns f ∷ es) = with_tag f.tag (at f.outputs port) ++ given_on port es
given_on port (Met ns n m ∷ es) = given_on port es

-- the trace of a port: the tokens that it gave in the log, each with its tag
abbrev pub trace : {T : Type 0} → Log T → Path → ℕ → List (Tag × T)
trace l p port = given_on port (l p)

-- how many firings are finished
abbrev pub firings_in : {T : Type 0} → List (Event T) → ℕ
firings_in [] = 0
firings_in (Finished ns f ∷ es) = suc (firings_in es)
firings_in (Met ns n m ∷ es) = firings_in es

-- the meeting among these, where it was made in that firing
abbrev pub if_same : Bool → Meeting → List Meeting → List Meeting
if_same true m ms = m ∷ ms
if_same false m ms = ms

-- the meetings that were made in the firing of a number, in order
abbrev pub meetings_in : {T : Type 0} → ℕ → List (Event T) → List Meeting
meetings_in n [] = []
meetings_in n (Finished ns f ∷ es) = meetings_in n es
meetings_in n (Met ns i m ∷ es) = if_same (nat_eq i n) m (meetings_in n es)

-- the event, as one within firing n of a composite
abbrev pub marked_event : {T : Type 0} → ℕ → Event T → Event T
marked_event n (Finished ns f) = Finished (n ∷ ns) f
marked_event n (Met ns i m) = Met (n ∷ ns) i m

-- each event so
abbrev pub all_marked : {T : Type 0} → ℕ → List (Event T) → List (Event T)
all_marked n [] = []
all_marked n (e ∷ es) = marked_event n e ∷ all_marked n es

-- the log of a composite: its own events as they are, and all below it as within firing n
abbrev pub within_firing : {T : Type 0} → ℕ → Log T → Log T
within_firing n l [] = l []
within_firing n l (i ∷ p) = all_marked n (l (i ∷ p))

-- What a run logs later than a log: below each composite it came within none of the firings that are finished there.
use Rattle.std.specs.Prelude.{◌≡◌, ℕ, ◌≤◌, ◌∷◌, ◌++◌, List, [], Bool, false, length, Some}
use Rattle.pt_meaning.specs.Basics.{Tag, Streams, Log, Path, Firing, Event, firings_in, silent, log_then, own}
use Rattle.pt_meaning.specs.Machine.{Stepping}
use Rattle.pt_meaning.specs.Modal.{get}
use Rattle.pt_meaning.specs.Meetings.{Meets}
use Rattle.pt_meaning.specs.Node.{Rows, Node, made_of, step_at}
use Rattle.pt_meaning.specs.Lawful.{LawfulRows}
use Rattle.pt_meaning.specs.Job.{Schedule, meaning}
use Rattle.pt_laws.specs.Heights.{IsFitting}
use Rattle.pt_meaning.specs.Closed.{Has, UnderWay, IsClosed, IsClosedRun, rounds_of}
use Rattle.pt_laws.specs.LogsOfRuns.{log_in}
use Rattle.pt_laws.specs.SoundRuns.{log_in_child, idle, ClosedIn, KeptIn}
use Rattle.pt_laws.specs.ClosedRuns.{IsAtStart}

-- what is in more came within no firing that is finished in l
abbrev pub ComesLater : {T : Type 0} → Log T → Log T → Type 0
ComesLater {T} l more = (p : Path) (i : ℕ) (r : Path) (e : Event T) → Has e (more (p ++ (i ∷ r))) → (n : ℕ) × (get (rounds_of e) (length p) ≡ Some n) × (firings_in (l p) ≤ n)

-- how it goes on: level by level, and firing by firing
pub record LaterGoesOn (T : Type 0) : Type 0 where
  pub below : (l more : Log T) → ((i : ℕ) (r : Path) (e : Event T) → Has e (more (i ∷ r)) → (n : ℕ) × (ns : List ℕ) × (rounds_of e ≡ n ∷ ns) × (firings_in (l []) ≤ n)) → ((i : ℕ) → ComesLater (log_in_child i l) (log_in_child i more)) → ComesLater l more
  pub joins : (l a b : Log T) → ComesLater l a → ComesLater (log_then l a) b → ComesLater l (log_then a b)
  pub nothing : (l : Log T) → ComesLater l silent
  pub of_own : (l : Log T) (f : Firing T) → ComesLater l (own f)

-- A step that logs later than what was before, all of it within the node's firing that is due.
pub record LaterStep {T A : Type 0} (rows : Rows T A) (step : Stepping T (Node T A)) : Type 0 where
  pub later : (u : Bool) (n₀ n : Node T A) (l : Log T) → IsFitting n → ClosedIn rows u n₀ l idle → KeptIn rows u n₀ n l → (tag : Tag) (X : Streams T) → ComesLater l (log_in (step tag n X))
  pub inside : (u : Bool) (n₀ n : Node T A) (l : Log T) → IsFitting n → ClosedIn rows u n₀ l idle → KeptIn rows u n₀ n l → (tag : Tag) (X : Streams T) → (i : ℕ) (r : Path) (e : Event T) → Has e (log_in (step tag n X) (i ∷ r)) → (ns : List ℕ) × (rounds_of e ≡ made_of n ∷ ns)

abbrev pub FiringsComeLater : Type 0 → Type 0 → Type 0
FiringsComeLater T A = (rows : Rows T A) → LawfulRows rows → (k d : ℕ) (m : Meets) → LaterStep rows (step_at rows k d m)

-- Two steps at one node, the second with as much fuel at least: where the log of the first is a beginning of that of the second, what is behind it comes later.
pub record WholeStep {T A : Type 0} (rows : Rows T A) (step further : Stepping T (Node T A)) : Type 0 where
  pub whole : (u : Bool) (n₀ n : Node T A) (l : Log T) → IsFitting n → ClosedIn rows u n₀ l idle → KeptIn rows u n₀ n l → (tag tag' : Tag) (X X' : Streams T) (more : Log T) → log_in (further tag' n X') ≡ log_then (log_in (step tag n X)) more → ComesLater (log_then l (log_in (step tag n X))) more

abbrev pub FiringsAreWhole : Type 0 → Type 0 → Type 0
FiringsAreWhole T A = (rows : Rows T A) → LawfulRows rows → (k k' d d' : ℕ) → k ≤ k' → d ≤ d' → (m : Meets) → WholeStep rows (step_at rows k d m) (step_at rows k' d' m)

-- the meaning's log at a greater fuel goes on behind that at a smaller one, and later
abbrev pub MeaningIsWhole : Type 0 → Type 0 → Type 0
MeaningIsWhole T A = (rows : Rows T A) → LawfulRows rows → (m : Meets) (plan : Schedule T A) (top : Node T A) → IsFitting top → IsAtStart top → (k k' : ℕ) → k ≤ k' → (more : Log T) × (meaning k' rows m plan top ≡ log_then (meaning k rows m plan top) more) × ComesLater (meaning k rows m plan top) more

-- a log that is closed level by level, and behind which the whole goes on later, is closed as a part of the whole
abbrev pub PartIsClosed : Type 0 → Type 0 → Type 0
PartIsClosed T A = (rows : Rows T A) (top : Node T A) (m l more : Log T) (way way' : UnderWay T) → m ≡ log_then l more → ClosedIn rows false top l way → ClosedIn rows false top m way' → ComesLater l more → IsClosed rows top m l way

-- So the meaning's log at any fuel is closed as a part of that at each greater one, beside the same firings under way.
abbrev pub LogsAreClosed : Type 0 → Type 0 → Type 0
LogsAreClosed T A = (rows : Rows T A) → LawfulRows rows → (m : Meets) (plan : Schedule T A) (top : Node T A) → IsFitting top → IsAtStart top → (k : ℕ) → (way : UnderWay T) × ((k' : ℕ) → k ≤ k' → IsClosedRun rows m plan top (meaning k' rows m plan top) (meaning k rows m plan top) way)

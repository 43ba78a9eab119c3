-- What an engine keeps of a node beside its state: at each path the number of finished firings, the tokens that each recorded port gave, and of a Rendezvous composite the meetings that were made.
use Rattle.std.specs.Prelude.{◌≡◌, ℕ, zero, suc, ◌+◌, ◌<◌, List, [], ◌∷◌, ◌++◌, Option, Some, None}
use Rattle.pt_meaning.specs.Tag.{Tag}
use Rattle.pt_meaning.specs.Streams.{Streams, at}
use Rattle.pt_meaning.specs.Log.{Path, Event, Finished, Met, Log, Meeting, with_tag, given_on, firings_in, meetings_in}

-- a recorded port, with the tokens that it gave, each with its tag
pub record Recorded (T : Type 0) : Type 0 where
  pub port : ℕ
  pub trace : List (Tag × T)

-- meetings in the order in which they were made, each with the number of the firing of its composite
abbrev pub Made : Type 0
Made = List (ℕ × Meeting)

-- what is kept of one path; meetings are recorded of a Rendezvous composite alone
pub record Entry (T : Type 0) : Type 0 where
  pub count : ℕ
  pub recorded : List (Recorded T)
  pub meetings : Option Made

-- what is kept of a node and of all within it, by paths, as a log is read
abbrev pub Kept : Type 0 → Type 0
Kept T = Path → Entry T

-- of a path that a node doesn't have nothing is kept
abbrev pub blank : {T : Type 0} → Entry T
blank = record { count = 0; recorded = []; meetings = None }

-- what is kept of child i, and blank where there is no such child
abbrev pub kept_at : {T : Type 0} → List (Kept T) → ℕ → Kept T
kept_at [] i p = blank
kept_at (k ∷ ks) zero p = k p
kept_at (k ∷ ks) (suc i) p = kept_at ks i p

-- what is kept of a composite: of its own path, and of its children, each below its number
abbrev pub kept_by : {T : Type 0} → Entry T → List (Kept T) → Kept T
kept_by e ks [] = e
kept_by e ks (i ∷ p) = kept_at ks i p

-- each recorded port went on by the tokens that these events gave on it
abbrev pub TracesGrew : {T : Type 0} → List (Event T) → List (Recorded T) → List (Recorded T) → Type 0
TracesGrew es [] [] = Unit {0}
TracesGrew es (r ∷ rs) (s ∷ ss) = (s.port ≡ r.port) × (s.trace ≡ r.trace ++ given_on r.port es) × TracesGrew es rs ss
TracesGrew es [] (s ∷ ss) = ⊥
TracesGrew es (r ∷ rs) [] = ⊥

-- the meetings that events tell
abbrev pub met_in : {T : Type 0} → List (Event T) → Made
met_in [] = []
met_in (Finished ns f ∷ es) = met_in es
met_in (Met ns n m ∷ es) = (n, m) ∷ met_in es

-- The recorded meetings went on by those that these events tell, none of which was made in a firing that was finished before, and there are so many of these. Where none are recorded none were made.
abbrev pub MeetingsGrew : {T : Type 0} → (finished : ℕ) → List (Event T) → Option Made → Option Made → Type 0
MeetingsGrew finished es None None = met_in es ≡ []
MeetingsGrew finished es (Some old) (Some new) = (new ≡ old ++ met_in es) × ((n : ℕ) → n < finished → meetings_in n es ≡ [])
MeetingsGrew finished es None (Some new) = ⊥
MeetingsGrew finished es (Some old) None = ⊥

-- what is kept of one path went on by these events of it
pub record EntryGrew {T : Type 0} (es : List (Event T)) (old new : Entry T) : Type 0 where
  pub count : new.count ≡ old.count + firings_in es
  pub recorded : TracesGrew es old.recorded new.recorded
  pub meetings : MeetingsGrew old.count es old.meetings new.meetings

-- what is kept went on by the log: at each path by the events there
abbrev pub GrewBy : {T : Type 0} → Log T → Kept T → Kept T → Type 0
GrewBy l old new = (p : Path) → EntryGrew (l p) (old p) (new p)

-- what is kept of each child went on by the child's own log
abbrev pub AllGrewBy : {T : Type 0} → List (Log T) → List (Kept T) → List (Kept T) → Type 0
AllGrewBy [] [] [] = Unit {0}
AllGrewBy (l ∷ ls) (old ∷ olds) (new ∷ news) = GrewBy l old new × AllGrewBy ls olds news
AllGrewBy [] [] (new ∷ news) = ⊥
AllGrewBy [] (old ∷ olds) news = ⊥
AllGrewBy (l ∷ ls) [] news = ⊥
AllGrewBy (l ∷ ls) (old ∷ olds) [] = ⊥

-- each recorded port went on by the tokens that a firing at this tag gave on it
abbrev pub TracesTold : {T : Type 0} → Tag → Streams T → List (Recorded T) → List (Recorded T) → Type 0
TracesTold tag out [] [] = Unit {0}
TracesTold tag out (r ∷ rs) (s ∷ ss) = (s.port ≡ r.port) × (s.trace ≡ r.trace ++ with_tag tag (at out r.port)) × TracesTold tag out rs ss
TracesTold tag out [] (s ∷ ss) = ⊥
TracesTold tag out (r ∷ rs) [] = ⊥

-- a firing was recorded: at this tag, with these outputs; its meetings were so as they were made
pub record EntryFired {T : Type 0} (tag : Tag) (out : Streams T) (old new : Entry T) : Type 0 where
  pub count : new.count ≡ suc old.count
  pub recorded : TracesTold tag out old.recorded new.recorded
  pub meetings : new.meetings ≡ old.meetings

-- how many firings are counted at these paths
abbrev pub count_kept : {T : Type 0} → Kept T → List Path → ℕ
count_kept k [] = 0
count_kept k (p ∷ ps) = (k p).count + count_kept k ps

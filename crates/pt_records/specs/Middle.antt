-- A composite of any director that is left off in the middle of a firing: what its children have fired, and what they have logged of firings that they don't finish.
use Rattle.std.specs.Prelude.{◌≡◌, ℕ, ◌≤◌, List, [], ◌∷◌, length, Option, Some, None}
use Rattle.pt_meaning.specs.Tag.{Tag}
use Rattle.pt_meaning.specs.Streams.{Streams, get}
use Rattle.pt_meaning.specs.Log.{Log, LogBelow, silent, log_then, log_below, within_firing}
use Rattle.pt_meaning.specs.Machine.{Fault, Stepping, Facts}
use Rattle.pt_meaning.specs.Meetings.{Meets, below_child}
use Rattle.pt_meaning.specs.Children.{Child, numbered, child_facts}
use Rattle.pt_meaning.specs.Tree.{Rows, Core, Past, Node, Nodes, Composite, list_of, height, heights}
use Rattle.pt_meaning.specs.NodeFacts.{facts_of}
use Rattle.pt_meaning.specs.Step.{step_at}
use Rattle.pt_meaning.specs.Lawful.{LawfulRows}
use Rattle.pt_meaning.specs.Asked as asked
use Rattle.pt_meaning.specs.Closed.{Begun, is_modal, IsTagBelow}
use Rattle.pt_laws.specs.CompositeRuns.{steps_below}
use Rattle.pt_laws.specs.Explained.{Turned, ChainOf, IsTakenWell}
use Rattle.pt_laws.specs.Heights.{IsFitting}
use Rattle.pt_laws.specs.LogsOfRuns.{log_in, log_at, logs_then}
use Rattle.pt_records.specs.Shut.{IsShut}

-- child i, which began as s, has made these firings one after another, and has logged them
pub record HasMade {T S : Type 0} (facts : Facts T S) (step : Stepping T S) (now : List S) (ls : List (Log T)) (s : S) (i : ℕ) (ts : List (Turned T)) : Type 0 where
  pub end : S
  pub there : get now i ≡ Some end
  pub chain : ChainOf facts step s ts end (log_at ls i)

-- What child z has logged of a firing that it doesn't finish, at a fuel k: nothing where it has begun none, and else a log that is shut, as stuck at a place where one is given.
abbrev pub IsLeft : {T A : Type 0} → Rows T A → (k d : ℕ) → Meets → Child (Node T A) → Option (Begun T) → Option Fault → Log T → Type 0
IsLeft rows k d m z None place rest = (rest ≡ silent) × (place ≡ None)
IsLeft rows k d m z (Some b) place rest = IsShut rows (below_child z.number m) z.node b.tag b.inputs place rest × (height z.node ≤ d) × LogBelow rest (log_in (step_at rows k d (below_child z.number m) b.tag z.node b.inputs))

-- A composite is left off, at a fuel k: its children have finished some firings, and then logged rest, each of a firing that it doesn't finish and was asked for. In all they have logged logs. Where a place is given, it is one of a child.
-- What each child took, with what it takes in a firing that it doesn't finish, was on its place, or was given by the source of the place, or, in a tick, may be known of the place.
pub record IsLeftAt {T A : Type 0} (rows : Rows T A) (k : ℕ) (m : Meets) (tag : Tag) (h : Past) (state : Core T) (kids : Nodes T A) (inputs : Streams T) (now : List (Child (Node T A))) (ls logs : List (Log T)) (begun : ℕ → Option (Begun T)) (at : ℕ → Option Fault) (place : Option Fault) (rest : ℕ → Log T) : Type 0 where
  pub turns : ℕ → List (Turned T)
  pub made : (i : ℕ) (s : Child (Node T A)) → get (numbered 0 (list_of kids)) i ≡ Some s → HasMade (child_facts (facts_of rows)) (steps_below rows k (heights kids) m) now ls s i (turns i)
  pub none : (i : ℕ) → length (list_of kids) ≤ i → (log_at ls i ≡ silent) × (turns i ≡ [])
  pub joined : (i : ℕ) → log_at logs i ≡ log_then (log_at ls i) (rest i)
  pub ends : (i : ℕ) (z : Child (Node T A)) → get now i ≡ Some z → IsLeft rows k (heights kids) m z (begun i) (at i) (rest i)
  pub beyond : (i : ℕ) → length (list_of kids) ≤ i → (rest i ≡ silent) × (begun i ≡ None) × (at i ≡ None)
  pub tagged : (i : ℕ) (b : Begun T) → begun i ≡ Some b → IsTagBelow (is_modal state) tag b.tag
  pub takes : (i q : ℕ) → IsTakenWell (child_facts (facts_of rows)) state (numbered 0 (list_of kids)) inputs turns begun tag i q
  pub asks : (i : ℕ) (z : Child (Node T A)) (b : Begun T) → get now i ≡ Some z → begun i ≡ Some b → asked.IsAsked (child_facts (facts_of rows)) (steps_below rows k (heights kids) m) (m [] h.made) h.made state (numbered 0 (list_of kids)) tag inputs i z b.tag b.inputs
  pub placed : (f : Fault) → place ≡ Some f → (i : ℕ) × (g : Fault) × (at i ≡ Some g) × (f ≡ record { path = i ∷ g.path; firing = g.firing; code = g.code })

-- Where it is so at each fuel from some on, what is logged is shut.
abbrev pub MiddlesAreShut : Type 0 → Type 0 → Type 0
MiddlesAreShut T A = (rows : Rows T A) → LawfulRows rows → (m : Meets) (tag : Tag) (h : Past) (start state : Core T) (kids : Nodes T A) (inputs : Streams T) (now : List (Child (Node T A))) (ls logs : List (Log T)) (begun : ℕ → Option (Begun T)) (at : ℕ → Option Fault) (place : Option Fault) (rest : ℕ → Log T) (k₀ : ℕ) →
    (IsFitting (Composite h start state kids) → (k : ℕ) → k₀ ≤ k → IsLeftAt rows k m tag h state kids inputs now ls logs begun at place rest) → IsShut rows m (Composite h start state kids) tag inputs place (within_firing h.made (log_below logs))

-- A composite between two firings of its children, at a fuel k: these have finished some firings, and no other is begun.
pub record IsBetween {T A : Type 0} (rows : Rows T A) (k : ℕ) (m : Meets) (tag : Tag) (state : Core T) (kids : Nodes T A) (inputs : Streams T) (now : List (Node T A)) (ls : List (Log T)) : Type 0 where
  pub turns : ℕ → List (Turned T)
  pub made : (i : ℕ) (s : Child (Node T A)) → get (numbered 0 (list_of kids)) i ≡ Some s → HasMade (child_facts (facts_of rows)) (steps_below rows k (heights kids) m) (numbered 0 now) ls s i (turns i)
  pub none : (i : ℕ) → length (list_of kids) ≤ i → (log_at ls i ≡ silent) × (turns i ≡ [])
  pub takes : (i q : ℕ) → IsTakenWell (child_facts (facts_of rows)) state (numbered 0 (list_of kids)) inputs turns (λ j. None) tag i q
  pub count : length now ≤ length (list_of kids)
  pub logged : length now ≤ length ls

-- Child i is asked for a firing at a tag on some inputs, of which it has logged inside so far: what it takes is on its places, or was given, or may be known of them.
pub record IsIn {T A : Type 0} (rows : Rows T A) (k : ℕ) (m : Meets) (tag : Tag) (h : Past) (state : Core T) (kids : Nodes T A) (inputs : Streams T) (now : List (Node T A)) (ls : List (Log T)) (turns : ℕ → List (Turned T)) (i : ℕ) (child : Node T A) (when : Tag) (got : Streams T) (place : Option Fault) (inside : Log T) : Type 0 where
  pub there : get now i ≡ Some child
  pub low : height child ≤ heights kids
  pub at_tag : IsTagBelow (is_modal state) tag when
  pub takes : (q : ℕ) → IsTakenWell (child_facts (facts_of rows)) state (numbered 0 (list_of kids)) inputs turns (λ j. Some (record { tag = when; inputs = got })) tag i q
  pub asks : asked.IsAsked (child_facts (facts_of rows)) (steps_below rows k (heights kids) m) (m [] h.made) h.made state (numbered 0 (list_of kids)) tag inputs i (record { number = i; node = child }) when got
  pub below : LogBelow inside (log_in (step_at rows k (height child) (below_child i m) when child got))
  pub shut : IsShut rows (below_child i m) child when got place inside

-- a place of child i, as one of the composite
abbrev pub below_place : ℕ → Option Fault → Option Fault
below_place i None = None
below_place i (Some f) = Some (record { path = i ∷ f.path; firing = f.firing; code = f.code })

-- What is logged between two firings of children is shut, and so it is with the part of a child that doesn't finish its firing, where that part is shut.
pub record PausesAreShut (T A : Type 0) : Type 0 where
  pub between : (rows : Rows T A) → LawfulRows rows → (m : Meets) (tag : Tag) (h : Past) (start state : Core T) (kids : Nodes T A) (inputs : Streams T) (now : List (Node T A)) (ls : List (Log T)) (k₀ : ℕ) →
      (IsFitting (Composite h start state kids) → (k : ℕ) → k₀ ≤ k → IsBetween rows k m tag state kids inputs now ls) → IsShut rows m (Composite h start state kids) tag inputs None (within_firing h.made (log_below ls))
  pub within : (rows : Rows T A) → LawfulRows rows → (m : Meets) (tag : Tag) (h : Past) (start state : Core T) (kids : Nodes T A) (inputs : Streams T) (now : List (Node T A)) (ls : List (Log T)) (i : ℕ) (child : Node T A) (when : Tag) (got : Streams T) (place : Option Fault) (inside : Log T) (k₀ : ℕ) →
      (IsFitting (Composite h start state kids) → (k : ℕ) → k₀ ≤ k → (b : IsBetween rows k m tag state kids inputs now ls) × IsIn rows k m tag h state kids inputs now ls b.turns i child when got place inside) →
      IsShut rows m (Composite h start state kids) tag inputs (below_place i place) (within_firing h.made (log_below (logs_then i inside ls)))

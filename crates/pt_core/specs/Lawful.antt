-- The laws of a director's calls: a chain of them makes the firing of the composite that the definitions say.
use Rattle.std.specs.Prelude.{◌≡◌, ℕ, ◌<◌, List, [], ◌∷◌, length, map, set, true, false, not, Option, Some, None, IsSome}
use Rattle.pt_meaning.specs.Tag.{Tag}
use Rattle.pt_meaning.specs.Streams.{Streams, get}
use Rattle.pt_meaning.specs.Log.{Path}
use Rattle.pt_meaning.specs.Machine.{Fault, Outcome, Need, Counts, Partial}
use Rattle.pt_meaning.specs.Meetings.{below_child}
use Rattle.pt_meaning.specs.Children.{numbered, child_facts, child_step}
use Rattle.pt_meaning.specs.Tree.{Rows, Past, Node, Nodes, Composite, list_of, nodes_of, made_of, reset_of, fired_at, height, heights}
use Rattle.pt_meaning.specs.NodeFacts.{facts_of, need_of, early_of, next_of, wakes_of, core_wake}
use Rattle.pt_meaning.specs.Step.{step_at, Step}
use Rattle.pt_meaning.specs.Asked.{IsAsked, HaveMade, IsJammed}
use Rattle.pt_value.specs.declared.token.Token.{Token}
use Rattle.pt_firing.specs.declared.ask.Ask.{Ask}
use Rattle.pt_firing.specs.declared.ask.Meeting.{Meeting}
use Rattle.pt_firing.specs.declared.ask.Ask.TheVariants.{Fire, Early, Reset, Get, Put, Grow, Meet, Await, Finished, Faulted, Full}
use Rattle.pt_firing.specs.declared.fault.RunFault.{RunFault}
use Rattle.pt_firing.specs.RunFault.{code_of}
use Rattle.pt_records.specs.Kept.{Kept, Entry, kept_at, kept_by}
use Rattle.pt_records.specs.Fired.{FromSome, FiresTo, SticksAt, LeavesOff}
use Rattle.pt_records.specs.Shut.{IsShut}
use Rattle.pt_core.specs.Acts.{Beginning, Calls, Acts}
use Rattle.pt_core.specs.Met.{HasMet, IsListed, entry_met, none_met, met_after}

-- a director asks for firings, early answers and resets, and tells its moves, until it is finished, stuck or full
abbrev pub IsUsual : Ask → Type 0
IsUsual (Fire child tag) = Unit {0}
IsUsual (Early child tag) = Unit {0}
IsUsual (Reset child) = Unit {0}
IsUsual Finished = Unit {0}
IsUsual (Faulted kind None) = Unit {0}
IsUsual (Faulted kind (Some child)) = ⊥
IsUsual (Get child) = Unit {0}
IsUsual (Put child) = Unit {0}
IsUsual Grow = Unit {0}
IsUsual Full = Unit {0}
IsUsual (Meet m) = Unit {0}
IsUsual Await = ⊥

-- A move: a process takes or gives a token, a channel grows, or a meeting is made. The director makes it itself as it answers so, and has only to be asked again.
abbrev pub IsMove : Ask → Type 0
IsMove (Get child) = Unit {0}
IsMove (Put child) = Unit {0}
IsMove Grow = Unit {0}
IsMove (Meet m) = Unit {0}
IsMove (Fire child tag) = ⊥
IsMove (Early child tag) = ⊥
IsMove (Reset child) = ⊥
IsMove Finished = ⊥
IsMove (Faulted kind child) = ⊥
IsMove Full = ⊥
IsMove Await = ⊥

-- what is lent to a child whose need is a count for each place: a list for each
pub record IsLentTo {A : Type 0} (rows : Rows Token A) (child : Node Token A) (X : Streams Token) : Type 0 where
  pub places : (ns : List ℕ) → need_of rows child ≡ Counts ns → length X ≡ length ns

-- a stuck place of child i, as one of the composite
abbrev pub below_fault : ℕ → Fault → Fault
below_fault i f = record { path = i ∷ f.path; firing = f.firing; code = f.code }

-- at the composite itself, and at a child that fires
abbrev pub own_fault : Past → RunFault → Fault
own_fault h kind = record { path = []; firing = h.made; code = code_of kind }

abbrev pub child_fault : {A : Type 0} → ℕ → Node Token A → RunFault → Fault
child_fault i child kind = record { path = i ∷ []; firing = made_of child; code = code_of kind }

-- No call changes the maximum capacity that the director states.
pub record KeepsMaximum {C : Type 0} (c : Calls C) : Type 0 where
  pub begun : (tag : Tag) (inputs : Streams Token) (s : C) → c.maximum (c.begun tag inputs s) ≡ c.maximum s
  pub asking : (answer : Ask) (s : C) → c.maximum (c.asking answer s) ≡ c.maximum s
  pub handed : (s : C) → c.maximum (c.handed s) ≡ c.maximum s
  pub told : (i : ℕ) (out : Streams Token) (wake : Option Tag) (need : Need) (s : C) → c.maximum (c.told i out wake need s) ≡ c.maximum s
  pub heard : (i : ℕ) (early : List (Partial Token)) (s : C) → c.maximum (c.heard i early s) ≡ c.maximum s
  pub closed : (s : C) → c.maximum (c.closed s) ≡ c.maximum s
  pub restarted : (s : C) → c.maximum (c.restarted s) ≡ c.maximum s

-- What the calls do to the meetings of a firing. Only a director that makes meetings tells them. None is made as its firing begins, or while none is under way; it has one more at each that it tells, and at any other call the same. A director that makes none never does.
pub record TellsMeetings {C : Type 0} (c : Calls C) : Type 0 where
  pub tells : (m : Meeting) (s : C) → c.Gives s (Meet m) → IsSome (c.met s)
  pub begun : (tag : Tag) (inputs : Streams Token) (s : C) → c.met (c.begun tag inputs s) ≡ none_met (c.met s)
  pub asking : (answer : Ask) (s : C) → c.met (c.asking answer s) ≡ met_after answer (c.met s)
  pub handed : (s : C) → c.met (c.handed s) ≡ c.met s
  pub told : (i : ℕ) (out : Streams Token) (wake : Option Tag) (need : Need) (s : C) → c.met (c.told i out wake need s) ≡ c.met s
  pub heard : (i : ℕ) (early : List (Partial Token)) (s : C) → c.met (c.heard i early s) ≡ c.met s
  pub closed : (s : C) → c.met (c.closed s) ≡ none_met (c.met s)
  pub restarted : (s : C) → c.met (c.restarted s) ≡ none_met (c.met s)

-- How the calls of a director agree with one another, whatever its children are.
pub record CallsAgree {C : Type 0} (c : Calls C) : Type 0 where
  -- a child that was asked to fire, or for an early answer, may be told so
  pub asked : (s : C) (i : ℕ) (when : Tag) → c.Gives s (Fire i when) → c.asked_of (c.asking (Fire i when) s) ≡ Some i
  pub listened : (s : C) (i : ℕ) (when : Tag) → c.Gives s (Early i when) → c.listened_of (c.asking (Early i when) s) ≡ Some i
  -- once its inputs are handed over they may be lent, and all else is as it was
  pub hands : (s : C) (i : ℕ) → c.asked_of s ≡ Some i → c.MayLend (c.handed s) × (c.asked_of (c.handed s) ≡ Some i) × (c.lent_of (c.handed s) ≡ c.lent_of s)
  pub hands_on : (s : C) (i : ℕ) → c.asked_of s ≡ Some i → (out : Streams Token) (wake : Option Tag) (need : Need) → (c.told i out wake need (c.handed s) ≡ c.told i out wake need s) × (c.accepts (c.handed s) i out ≡ c.accepts s i out) × (c.refusal (c.handed s) ≡ c.refusal s)
  -- it may be asked again once it was told what the child gave, and tells whether it accepted that
  pub asks_on : (s : C) (i : ℕ) (out : Streams Token) (wake : Option Tag) (need : Need) → c.asked_of s ≡ Some i → c.MayAsk (c.told i out wake need s)
  pub tells : (s : C) (i : ℕ) (out : Streams Token) (wake : Option Tag) (need : Need) → c.asked_of s ≡ Some i → c.is_wrong (c.told i out wake need s) ≡ not (c.accepts s i out)
  -- where it is finished the own outputs may be handed out
  pub finishes : (s : C) → c.Gives s Finished → c.MayFinish (c.asking Finished s)
  -- the start that is brought back is that of the definitions
  pub restarts : (s : C) → (c.core_of (c.restarted s) ≡ c.start_of s) × (c.start_of (c.restarted s) ≡ c.start_of s)
  pub keeps_maximum : KeepsMaximum c
  pub tells_meetings : TellsMeetings c

module _ {A C : Type 0} {rows : Rows Token A} (a : Acts rows C) where
  abbrev c : Calls C
  c = a.calls

  -- the composite, by a state of its director
  abbrev pub node : Past → C → Nodes Token A → Node Token A
  node h s kids = Composite h (c.start_of s) (c.core_of s) kids

  -- what a firing that began so comes to at a fuel, for the composite with this past
  abbrev pub outcome : Beginning A C → Past → ℕ → Outcome Token (Node Token A)
  outcome b h fuel = step_at rows fuel (height (node h b.before b.kids)) b.meets b.tag (node h b.before b.kids) b.inputs

  -- what is kept of its own path, once the meetings are recorded that were made so far
  abbrev pub entry_at : Past → C → Entry Token → Entry Token
  entry_at h s e = entry_met h.made (c.met s) e

  -- it is stuck at this place, or was left off, and what is kept of it went on by those meetings, and from the children that were to these
  abbrev pub IsStuck : Beginning A C → Past → Entry Token → C → Fault → List (Kept Token) → Type 0
  IsStuck b h e s f news = SticksAt (outcome b h) (IsShut rows b.meets (node h b.before b.kids) b.tag b.inputs (Some f)) f (kept_by e b.olds) (kept_by (entry_at h s e) news)

  abbrev pub IsLeftOff : Beginning A C → Past → Entry Token → C → List (Kept Token) → Type 0
  IsLeftOff b h e s news = LeavesOff (outcome b h) (IsShut rows b.meets (node h b.before b.kids) b.tag b.inputs None) (kept_by e b.olds) (kept_by (entry_at h s e) news)

  -- what a firing of child i that was asked for comes to, without its record
  abbrev pub child_outcome : Beginning A C → C → ℕ → Tag → Node Token A → ℕ → Outcome Token (Node Token A)
  child_outcome b s i when child fuel = step_at rows fuel (height child) (below_child i b.meets) when child (c.lent_of s)

  -- What holds in the middle of a firing that began so, where the director is in the state s, the children are now, and what is kept of them is news. What is said of the composite's own firing is said where its meetings are those made so far.
  pub record Middle (b : Beginning A C) (s : C) (now : List (Node Token A)) (news : List (Kept Token)) : Type 0 where
    -- it may be asked what comes next, and how it answers
    pub asks : c.MayAsk s
    pub usual : (answer : Ask) → c.Gives s answer → IsUsual answer
    -- a child that is asked to fire is there, and takes a list for each of its places
    pub fires_one : (i : ℕ) (when : Tag) → c.Gives s (Fire i when) → i < length now
    pub lends : (i : ℕ) (when : Tag) → c.Gives s (Fire i when) → (child : Node Token A) → get now i ≡ Some child → IsLentTo rows child (c.lent_of (c.asking (Fire i when) s))
    -- the firing goes on by the child's, once that is recorded
    pub goes_on : (i : ℕ) (when : Tag) → c.Gives s (Fire i when) → let t = c.asking (Fire i when) s in
        (child next : Node Token A) (out : Streams Token) (k : Kept Token) → get now i ≡ Some child → FiresTo (λ fuel. Step fuel rows (below_child i b.meets) child when (c.lent_of t)) next out (kept_at news i) k → c.accepts t i out ≡ true →
        a.Underway b (c.told i out (next_of rows next) (need_of rows next) t) (set now i next) (set news i k)
    -- or is stuck at the child, which has no record of a firing that isn't accepted
    pub refuses : (i : ℕ) (when : Tag) → c.Gives s (Fire i when) → let t = c.asking (Fire i when) s in
        (child next : Node Token A) (out : Streams Token) (k : Kept Token) → get now i ≡ Some child → FiresTo (child_outcome b t i when child) next out (kept_at news i) k → c.accepts t i out ≡ false →
        (h : Past) (e : Entry Token) → HasMet (c.met s) b.meets h e → IsStuck b h e s (child_fault i child (c.refusal t)) (set news i k)
    pub sticks : (i : ℕ) (when : Tag) → c.Gives s (Fire i when) → let t = c.asking (Fire i when) s in
        (child : Node Token A) (k : Kept Token) (f : Fault) → get now i ≡ Some child → SticksAt (child_outcome b t i when child) (IsShut rows (below_child i b.meets) child when (c.lent_of t) (Some f)) f (kept_at news i) k →
        (h : Past) (e : Entry Token) → HasMet (c.met s) b.meets h e → IsStuck b h e s (below_fault i f) (set news i k)
    -- the composite's firing asks for the child's among the definitions, so that a jam within the child is one within the composite
    pub asks_as : (i : ℕ) (when : Tag) → c.Gives s (Fire i when) → (child : Node Token A) → get now i ≡ Some child → (h : Past) → IsListed (c.met s) b.meets h →
        FromSome (λ k. IsAsked (child_facts (facts_of rows)) (child_step (λ j. step_at rows k (heights b.kids) (below_child j b.meets))) (b.meets [] h.made) h.made (c.core_of b.before) (numbered 0 (list_of b.kids)) b.tag b.inputs i (record { number = i; node = child }) when (c.lent_of (c.asking (Fire i when) s)))
    -- a child that is asked for an early answer is there, and the firing goes on by what it gives
    pub listens : (i : ℕ) (when : Tag) → c.Gives s (Early i when) → i < length now
    pub hears : (i : ℕ) (when : Tag) → c.Gives s (Early i when) → let t = c.asking (Early i when) s in
        (child : Node Token A) → get now i ≡ Some child → a.Underway b (c.heard i (early_of rows when child (c.partial_of t)) t) now news
    pub learns : (i : ℕ) (when : Tag) → c.Gives s (Early i when) → (early : List (Partial Token)) → c.waits (c.heard i early (c.asking (Early i when) s)) < c.waits s
    -- so it is with a child that is brought back to its start
    pub resets_one : (i : ℕ) → c.Gives s (Reset i) → i < length now
    pub resets : (i : ℕ) → c.Gives s (Reset i) → (child : Node Token A) → get now i ≡ Some child → a.Underway b (c.asking (Reset i) s) (set now i (reset_of child)) news
    pub rests : (i : ℕ) → c.Gives s (Reset i) → c.waits (c.asking (Reset i) s) < c.waits s
    -- after a move of its own it goes on with the same children
    pub moves : (answer : Ask) → IsMove answer → c.Gives s answer → a.Underway b (c.asking answer s) now news × (c.waits (c.asking answer s) < c.waits s)
    -- where it is finished the firing is done, and another may begin
    pub ends : c.Gives s Finished → let t = c.asking Finished s in
        (h : Past) (e : Entry Token) → HasMet (c.met s) b.meets h e → FiresTo (outcome b h) (node (fired_at b.tag h) (c.closed t) (nodes_of now)) (c.own_of t) (kept_by e b.olds) (kept_by (entry_at h s e) news)
    pub fits : c.Gives s Finished → a.Fits (c.closed (c.asking Finished s)) now
    -- where it is told stuck the firing is so, at the composite itself
    pub faults : (kind : RunFault) → c.Gives s (Faulted kind None) → (h : Past) (e : Entry Token) → HasMet (c.met s) b.meets h e → IsStuck b h e s (own_fault h kind) news
    -- Where it is told full the composite's network is in a jam, with the full channels that the director tells: for whatever maximum capacities are known by path, of which the director's is its own, and whatever numbers of finished firings, of which these are.
    pub jams : c.Gives s Full → (h : Past) → IsListed (c.met s) b.meets h → (maximum count : Path → ℕ) → maximum [] ≡ c.maximum b.before → h.made ≡ count [] → HaveMade count (numbered 0 now) →
        FromSome (λ k. IsJammed rows k [] b.meets maximum count (node h b.before b.kids) b.tag b.inputs (c.blocked (c.asking Full s)))
    -- it may be left off between two firings of children, or within one
    pub off : (h : Past) (e : Entry Token) → HasMet (c.met s) b.meets h e → IsLeftOff b h e s news
    pub off_within : (i : ℕ) (when : Tag) → c.Gives s (Fire i when) → let t = c.asking (Fire i when) s in
        (child : Node Token A) (k : Kept Token) → get now i ≡ Some child → LeavesOff (child_outcome b t i when child) (IsShut rows (below_child i b.meets) child when (c.lent_of t) None) (kept_at news i) k → (h : Past) (e : Entry Token) → HasMet (c.met s) b.meets h e → IsLeftOff b h e s (set news i k)

  -- A firing begins where none is under way, and goes on, ends, is stuck or is left off as its middle says.
  pub record Lawful : Type 0 where
    pub agree : CallsAgree c
    pub idle : (s : C) (kids : List (Node Token A)) → a.Fits s kids → c.IsIdle s
    -- its wake is that of the definitions, by the wakes of the children
    pub wakes : (s : C) (kids : List (Node Token A)) → a.Fits s kids → c.wake s ≡ core_wake (c.core_of s) (wakes_of rows (nodes_of kids))
    -- brought back to its start it fits children that are brought back to theirs
    pub fits_again : (s : C) (kids : List (Node Token A)) → a.Fits s kids → a.Fits (c.restarted s) (map reset_of kids)
    pub begins : (b : Beginning A C) → a.Fits b.before (list_of b.kids) → c.Takes b.before b.inputs → length (list_of b.kids) ≡ length b.olds → a.Underway b (c.begun b.tag b.inputs b.before) (list_of b.kids) b.olds
    pub middle : (b : Beginning A C) (s : C) (now : List (Node Token A)) (news : List (Kept Token)) → a.Underway b s now news → Middle b s now news

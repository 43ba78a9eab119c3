-- Which firings of its children a firing of a composite asks for, and the jams of the networks within a firing.
use Rattle.std.specs.Prelude.{◌≡◌, ℕ, zero, suc, max, List, [], ◌∷◌, ◌++◌, true, false, ◌⊎◌, ◌≤◌, length, Option, Some, take, drop}
use Rattle.pt_meaning.specs.Tag.{Tag, local}
use Rattle.pt_meaning.specs.Streams.{IsPrefix, Streams, at, get}
use Rattle.pt_meaning.specs.Log.{Log, Path, Meeting, firings_in}
use Rattle.pt_meaning.specs.Machine.{Done, Stepping, Facts, Takes, front, Partial}
use Rattle.pt_meaning.specs.Flow.{flow}
use Rattle.pt_meaning.specs.Net.{Net}
use Rattle.pt_meaning.specs.Rounds.{Limit, within, rated, round}
use Rattle.pt_meaning.specs.Kahn.{arrived}
use Rattle.pt_meaning.specs.Sdf.{iterations, sdf_limits}
use Rattle.pt_meaning.specs.Pn.{pn_limits}
use Rattle.pt_meaning.specs.Valuation.{Activity, Earliness, known, valuation}
use Rattle.pt_meaning.specs.Sr.{sr_active, sr_turn}
use Rattle.pt_meaning.specs.De.{de_active, de_early, de_turn, rows_of, by_rows}
use Rattle.pt_meaning.specs.Modal.{Nothing, chosen, lag_of, picked}
use Rattle.pt_meaning.specs.Process.{Party, Fires, next_event, advanced}
use Rattle.pt_meaning.specs.Meetings.{Meets, Scene, below_child, meet}
use Rattle.pt_meaning.specs.Rendezvous.{opening, settled}
use Rattle.pt_meaning.specs.Children.{Child, numbered, child_facts, child_step}
use Rattle.pt_meaning.specs.Tree.{Rows, Core, Sdf, Pn, Sr, De, Rv, Modal, Node, Actor, Composite, list_of, heights, made_of}
use Rattle.pt_meaning.specs.NodeFacts.{facts_of}
use Rattle.pt_meaning.specs.Step.{step_at}
use Rattle.pt_meaning.specs.Job.{Schedule, Course, Goes, Fire, after, begin}
use Rattle.pt_meaning.specs.Jam.{IsFull}

-- A child that began as first, on what its places have: it has made some firings, and has the tokens that it needs for the next, which its limit allows.
pub record AsksNext {T S : Type 0} (facts : Facts T S) (step : Stepping T S) (tag : Tag) (limit : Option ℕ) (first : S) (X : Streams T) (child : S) (got : Streams T) : Type 0 where
  pub made : ℕ
  pub left : Streams T
  pub fired : (flow facts step tag made first X).fired ≡ made
  pub state : (flow facts step tag made first X).state ≡ child
  pub takes : front (facts.need child) (flow facts step tag made first X).left ≡ Takes got left
  pub allowed : suc made ≤ within limit (suc made)

-- child i on the channels X, within its limit and with its rates
abbrev pub AsksOn : {T S : Type 0} → Facts T S → Stepping T S → Tag → ℕ → List ℕ → List Limit → List S → Streams T → (child : S) (got : Streams T) → Type 0
AsksOn facts step tag zero (n ∷ ns) (c ∷ cs) (s ∷ ss) X child got = AsksNext facts (rated facts c.rates step) tag c.firings s (take n X) child got
AsksOn facts step tag (suc i) (n ∷ ns) (c ∷ cs) (s ∷ ss) X child got = AsksOn facts step tag i ns cs ss (drop n X) child got
AsksOn facts step tag i [] cs ss X child got = ⊥
AsksOn facts step tag i (n ∷ ns) [] ss X child got = ⊥
AsksOn facts step tag i (n ∷ ns) (c ∷ cs) [] X child got = ⊥

-- in dataflow: so it is at some round
abbrev pub AsksInRounds : {T S : Type 0} → Facts T S → Stepping T S → Tag → Net → List Limit → List S → Streams T → (i : ℕ) (child : S) (got : Streams T) → Type 0
AsksInRounds facts step tag net limits kids start i child got = (k : ℕ) × AsksOn facts step tag i net.places limits kids (round facts step tag net limits kids start k) child got

-- what is known at the places of child i
abbrev pub known_places : {T : Type 0} → List ℕ → ℕ → List (Partial T) → List (Partial T)
known_places [] i V = []
known_places (n ∷ ns) zero V = take n V
known_places (n ∷ ns) (suc i) V = known_places ns i (drop n V)

-- at a tag: the inputs of the child are known
pub record AsksInTick {T S : Type 0} (early : Earliness T S) (active : Activity T S) (turn : Stepping T S) (tag : Tag) (net : Net) (kids : List S) (inputs : Streams T) (i : ℕ) (child : S) (got : Streams T) : Type 0 where
  pub round : ℕ
  pub inputs_known : known (known_places net.places i (valuation early active turn tag net kids inputs round)) ≡ Some got
  pub state : get kids i ≡ Some child

-- under DE: on its whole lists, or on a row after the firings for the rows before it
abbrev pub IsTurnAt : {T S : Type 0} → Facts T S → Stepping T S → Tag → (first : S) (lists : Streams T) (child : S) (got : Streams T) → Type 0
IsTurnAt {T} facts step tag first lists child got =
    ((facts.whole first ≡ true) × (child ≡ first) × (got ≡ lists)) ⊎
    ((facts.whole first ≡ false) × (before behind : List (Streams T)) × (out : Streams T) × (l : Log T) × (rows_of lists ≡ before ++ (got ∷ behind)) × (by_rows facts step tag before first ≡ Done child out l))

-- the scene after some meetings in turn, before each of which the processes made at most k firings
abbrev pub scene_after : {T S : Type 0} → Facts T S → Stepping T S → Tag → Net → (k n : ℕ) → List Meeting → Scene T S → Scene T S
scene_after facts step tag net k n [] sc = sc
scene_after facts step tag net k n (m ∷ ms) sc = scene_after facts step tag net k n ms (meet net n m (settled facts step tag net k n sc))

-- under Rendezvous: the first meetings of the list were made, and then some firings of the process, which fires next
pub record AsksInScene {T S : Type 0} (facts : Facts T S) (step : Stepping T S) (tag : Tag) (net : Net) (n : ℕ) (ms : List Meeting) (start : Scene T S) (i : ℕ) (child : S) (got : Streams T) : Type 0 where
  pub fuel : ℕ
  pub met : List Meeting
  pub made : ℕ
  pub party : Party T S
  pub listed : IsPrefix met ms
  pub there : get (scene_after facts step tag net fuel n met start).parties i ≡ Some party
  pub fires : next_event facts (advanced facts step tag net.sources made i party) ≡ Fires
  pub state : (advanced facts step tag net.sources made i party).state ≡ child
  pub gathered : (advanced facts step tag net.sources made i party).got ≡ got

-- A firing of the composite, at the tag on the inputs, asks child i to fire in this state, at this tag and on these inputs.
abbrev pub IsAsked : {T S : Type 0} → Facts T S → Stepping T S → List Meeting → (made : ℕ) → Core T → List S → Tag → Streams T → (i : ℕ) (child : S) (within : Tag) (got : Streams T) → Type 0
IsAsked facts step ms made (Sdf p X) kids tag inputs i child within got =
    let Y = arrived p.net.sources inputs X in
    (within ≡ tag) × AsksInRounds facts step tag p.net (sdf_limits (iterations p Y) p.repetitions p.rates) kids Y i child got
IsAsked facts step ms made (Pn p X) kids tag inputs i child within got = (within ≡ tag) × AsksInRounds facts step tag p.net (pn_limits p.net.places) kids (arrived p.net.sources inputs X) i child got
IsAsked facts step ms made (Sr p) kids tag inputs i child within got = (within ≡ tag) × AsksInTick facts.early sr_active (sr_turn facts step) tag p.net kids inputs i child got
IsAsked {T} {S} facts step ms made (De p) kids tag inputs i child within got =
    (within ≡ tag) × (first : S) × (lists : Streams T) × AsksInTick (de_early facts) (de_active facts) (de_turn facts step) tag p.net kids inputs i first lists × (de_active facts tag first lists ≡ true) × IsTurnAt facts step tag first lists child got
IsAsked facts step ms made (Rv p X) kids tag inputs i child within got = (within ≡ tag) × AsksInScene facts step tag p.net made ms (opening p X kids inputs) i child got
IsAsked facts step ms made (Modal chart m) kids tag inputs i child within got =
    (within ≡ local tag (lag_of m.stays i)) × (chosen 0 (chart.preemptive m.mode m.values inputs) ≡ Nothing) × (chart.refinement m.mode ≡ Some i) × (get kids i ≡ Some child) × (got ≡ picked (chart.in_ports i) inputs)

-- the greatest capacity of a channel of a network: the maximum that its director states, or the number of its first tokens where that is more
abbrev pub greatest_capacity : {T : Type 0} → (maximum : ℕ) → (start : Core T) → ℕ → ℕ
greatest_capacity maximum (Sdf p X) c = maximum
greatest_capacity maximum (Pn p X) c = max maximum (length (at X c))
greatest_capacity maximum (Sr p) c = maximum
greatest_capacity maximum (De p) c = maximum
greatest_capacity maximum (Rv p X) c = maximum
greatest_capacity maximum (Modal chart m) c = maximum

-- the children have finished these numbers of firings
abbrev pub HaveMade : {T A : Type 0} → (count : Path → ℕ) → List (Child (Node T A)) → Type 0
HaveMade count [] = Unit {0}
HaveMade count (c ∷ cs) = (made_of c.node ≡ count (c.number ∷ [])) × HaveMade count cs

-- A firing of the node, at the tag on the inputs, gets the network at the path into a jam with these full channels: the node itself, or one within a child that it asks to fire.
-- The maximum capacities are known for each path, and so are the numbers of firings that are finished.
abbrev pub IsJammed : {T A : Type 0} → Rows T A → (k : ℕ) → Path → Meets → (maximum count : Path → ℕ) → Node T A → Tag → Streams T → List (ℕ × ℕ) → Type 0
IsJammed rows k p m maximum count (Actor h a b) tag inputs full = ⊥
IsJammed rows k [] m maximum count (Composite h c (Pn p X) kids) tag inputs full =
    (h.made ≡ count []) ×
    (jam : IsFull (child_facts (facts_of rows)) (child_step (λ i. step_at rows k (heights kids) (below_child i m))) tag p.net (numbered 0 (list_of kids)) (arrived p.net.sources inputs X) (greatest_capacity (maximum []) c) full) ×
    HaveMade count jam.now
IsJammed rows k [] m maximum count (Composite h c d kids) tag inputs full = ⊥
IsJammed {T} {A} rows k (i ∷ p) m maximum count (Composite h c d kids) tag inputs full =
    (h.made ≡ count []) ×
    (child : Child (Node T A)) × (within : Tag) × (got : Streams T) ×
    IsAsked (child_facts (facts_of rows)) (child_step (λ j. step_at rows k (heights kids) (below_child j m))) (m [] h.made) h.made d (numbered 0 (list_of kids)) tag inputs i child within got ×
    IsJammed rows k p (below_child i m) (λ q. maximum (i ∷ q)) (λ q. count (i ∷ q)) child.node within got full

-- In a run of a job whose finished firings are those of the log, the firing of the top that is under way gets the network at the path into a jam with these full channels.
pub record IsJamOf {T A : Type 0} (rows : Rows T A) (m : Meets) (plan : Schedule T A) (top : Node T A) (maximum : Path → ℕ) (l : Log T) (p : Path) (full : List (ℕ × ℕ)) : Type 0 where
  pub fuel : ℕ
  pub course : Course T A
  pub tag : Tag
  pub inputs : Streams T
  pub before : after fuel rows m plan (firings_in (l [])) (begin top) ≡ Goes course
  pub next : plan course.fired course.last course.top ≡ Fire tag inputs
  pub jam : IsJammed rows fuel p m maximum (λ q. firings_in (l q)) course.top tag inputs full

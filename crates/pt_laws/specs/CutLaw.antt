-- The cut law of PN: two firings at one tag, on inputs A and then B, are one firing on A and B joined.
use Rattle.std.specs.Prelude.{◌≡◌, ℕ, suc, ◌+◌, ◌≤◌, List, [], ◌∷◌, ◌++◌, length, take}
use Rattle.pt_meaning.specs.Basics.{Tag, Streams, Path, Log, joined, log_then, trace}
use Rattle.pt_meaning.specs.Machine.{Done, Stepping, Facts}
use Rattle.pt_meaning.specs.Rounds.{Net}
use Rattle.pt_meaning.specs.Dataflow.{PnPlan, arrived, pn_limits}
use Rattle.pt_meaning.specs.Process.{emptied}
use Rattle.pt_meaning.specs.Meetings.{Meets}
use Rattle.pt_meaning.specs.Node.{Rows, Core, Pn, Past, Node, Nodes, Actor, Composite, list_of, Step}
use Rattle.pt_meaning.specs.Running.{total}
use Rattle.pt_laws.specs.LogsOfRuns.{RunningWith}
use Rattle.pt_laws.specs.CompositeRuns.{outlets_of}
use Rattle.pt_meaning.specs.Lawful.{LawfulRows}

-- child by child
abbrev pub sums : List ℕ → List ℕ → List ℕ
sums [] ns = []
sums (m ∷ ms) [] = []
sums (m ∷ ms) (n ∷ ns) = (m + n) ∷ sums ms ns

abbrev pub logs_joined : {T : Type 0} → List (Log T) → List (Log T) → List (Log T)
logs_joined [] ks = []
logs_joined (l ∷ ls) [] = []
logs_joined (l ∷ ls) (k ∷ ks) = log_then l k ∷ logs_joined ls ks

-- what a PN composite keeps of its channels when its firing ends: the own outputs give all they have
abbrev pub kept_of : {T : Type 0} → Net → Streams T → Streams T
kept_of net held = take (total net.places) held ++ emptied (outlets_of net held)

-- a run on the inputs A, and then a run from there on the inputs B, are one run on both joined
abbrev pub RunsJoin : Type 0 → Type 0 → Type 0
RunsJoin T S = (facts : Facts T S) (step : Stepping T S) (tag : Tag) (net : Net) (kids : List S) (X A B : Streams T) (ms ns : List ℕ) (now later : List S) (held after : Streams T) (ls ks : List (Log T)) →
    RunningWith facts step tag net (pn_limits net.places) kids (arrived net.sources A X) ms now held ls →
    RunningWith facts step tag net (pn_limits net.places) now (arrived net.sources B (kept_of net held)) ns later after ks →
    RunningWith facts step tag net (pn_limits net.places) kids (arrived net.sources (joined A B) X) (sums ms ns) later (take (total net.places) after ++ joined (outlets_of net held) (outlets_of net after)) (logs_joined ls ks)

-- the same node with another number of its own finished firings
abbrev pub with_made : {T A : Type 0} → ℕ → Node T A → Node T A
with_made n (Actor h a b) = Actor (record { made = n; last = h.last }) a b
with_made n (Composite h c d kids) = Composite (record { made = n; last = h.last }) c d kids

-- Where the firings on A and then on B are done, the firing on both joined is done, at some fuel and each greater one. Its outputs are the joined outputs, its state is that after B but for the number of own firings, and what each port within gave is what it gave in both.
abbrev pub CutLaw : Type 0 → Type 0 → Type 0
CutLaw T Act = (rows : Rows T Act) → LawfulRows rows → (m : Meets) (k k' : ℕ) (tag : Tag) (h : Past) (c : Core T) (p : PnPlan) (X : Streams T) (kids : Nodes T Act) → length (list_of kids) ≡ length p.net.places → total p.net.places ≤ length X →
    (A B : Streams T) (middle last : Node T Act) (out more : Streams T) (l n : Log T) → Step k rows m (Composite h c (Pn p X) kids) tag A ≡ Done middle out l → Step k' rows m middle tag B ≡ Done last more n →
    (j : ℕ) × (whole : Log T) × ((i : ℕ) → j ≤ i → Step i rows m (Composite h c (Pn p X) kids) tag (joined A B) ≡ Done (with_made (suc h.made) last) (joined out more) whole) ×
    ((q : Path) (port : ℕ) → trace whole q port ≡ trace l q port ++ trace n q port)

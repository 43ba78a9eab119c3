-- A run of a typed tree: whatever is finished in it took and gave tokens of the kinds of its node alone.
use Rattle.std.specs.Prelude.{◌≡◌, ℕ, List, [], Option}
use Rattle.pt_meaning.specs.Basics.{Tag, Streams}
use Rattle.pt_meaning.specs.Machine.{Done, Stuck, Outcome, Partial}
use Rattle.pt_meaning.specs.Meetings.{Meets}
use Rattle.pt_meaning.specs.Node.{Rows, Node, Gives, Step}
use Rattle.pt_meaning.specs.Job.{Schedule, Fire, meaning}
use Rattle.pt_kinds.specs.Signature.{Signature, Signatures, AreOf, AreAllOf, AreKnownOf, AreAllKnownOf, IsTypedLog}
use Rattle.pt_kinds.specs.TypedTree.{IsTypedNode}

module _ {T K A : Type 0} (Has : K → T → Type 0) (Below : K → K → Type 0) (Fits : Signature K → A → Type 0) (rows : Rows T A) where
  -- An actor that fits a signature keeps to it, whatever it fires: on inputs of the kinds of its places it gives tokens of those of its outputs, and fits it again. So it does with what it gives early.
  pub record ActorsKeepKinds : Type 0 where
    pub gives : (s : Signature K) (a b : A) (tag : Tag) (X out : Streams T) → Fits s a → AreAllOf Has s.places X → rows.react tag a X ≡ Gives b out → AreOf Has s.outputs out × Fits s b
    pub tells : (s : Signature K) (a : A) (tag : Tag) (vs : List (Partial T)) → Fits s a → AreAllKnownOf Has s.places vs → AreKnownOf Has s.outputs (rows.early tag a vs)

  -- what is of a kind below another is of that too
  abbrev pub KindsWiden : Type 0
  KindsWiden = (j k : K) (x : T) → Below j k → Has j x → Has k x

  -- A firing of a node, done or stuck: what was finished in it keeps to its signatures; where it is done, so does what it gave, and the node after it is typed.
  abbrev pub IsTypedOutcome : Signatures K → Outcome T (Node T A) → Type 0
  IsTypedOutcome sigs (Done next out l) = IsTypedNode Has Below Fits sigs next × AreOf Has (sigs []).outputs out × IsTypedLog Has sigs l
  IsTypedOutcome sigs (Stuck fs l) = IsTypedLog Has sigs l

  -- so is each firing of a typed node on inputs of the kinds of its places
  abbrev pub StepsKeepKinds : Type 0
  StepsKeepKinds = (sigs : Signatures K) (k : ℕ) (m : Meets) (node : Node T A) (tag : Tag) (inputs : Streams T) → IsTypedNode Has Below Fits sigs node → AreAllOf Has (sigs []).places inputs → IsTypedOutcome sigs (Step k rows m node tag inputs)

  -- the job asks for firings of the top on inputs of the kinds of its places
  abbrev pub AreTypedTurns : Signatures K → Schedule T A → Type 0
  AreTypedTurns sigs plan = (fired : ℕ) (last : Option Tag) (top : Node T A) (tag : Tag) (inputs : Streams T) → plan fired last top ≡ Fire tag inputs → AreAllOf Has (sigs []).places inputs

  -- the log of such a job keeps to the signatures, at each fuel
  abbrev pub MeaningKeepsKinds : Type 0
  MeaningKeepsKinds = (sigs : Signatures K) (m : Meets) (plan : Schedule T A) (top : Node T A) → IsTypedNode Has Below Fits sigs top → AreTypedTurns sigs plan → (k : ℕ) → IsTypedLog Has sigs (meaning k rows m plan top)

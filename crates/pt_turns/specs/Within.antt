-- What a firing of a node comes to among the definitions, before and after it is recorded.
use Rattle.std.specs.Prelude.{◌≡◌, ℕ, ℤ, ◌+◌, ◌≤◌, List, [], ◌∷◌, map, Bool, true, false, Option, Some, None}
use Rattle.pt_meaning.specs.Basics.{Tag, Streams, Path}
use Rattle.pt_meaning.specs.Machine.{Outcome}
use Rattle.pt_meaning.specs.Machine as machine
use Rattle.pt_meaning.specs.Meetings.{Meets}
use Rattle.pt_meaning.specs.Tree as tree
use Rattle.pt_meaning.specs.Step.{step_at, Step}
use Rattle.pt_meaning.specs.Asked.{IsJammed}
use Rattle.pt_value.specs.declared.token.Token.{Token}
use Rattle.pt_value.specs.declared.token.Token.TheVariants.{Int}
use Rattle.pt_firing.specs.declared.answer.Answer.{Answer}
use Rattle.pt_firing.specs.declared.answer.Answer.TheVariants as answer
use Rattle.pt_firing.specs.declared.answer.Blocked.{Blocked}
use Rattle.pt_firing.specs.declared.answer.Place.{Place}
use Rattle.pt_firing.specs.declared.fault.RunFault.{RunFault}
use Rattle.pt_firing.specs.RunFault.{code_of}
use Rattle.pt_records.specs.Kept.{Kept}
use Rattle.pt_records.specs.Made.{AreMade, AreMadeBefore, AreMadeWithin}
use Rattle.pt_records.specs.Fired.{FromSome, FiresTo, SticksAt, LeavesOff}
use Rattle.pt_records.specs.Shut.{IsShut}
use Rattle.pt_library.specs.LibraryActor.{rows}
use Rattle.pt_library.specs.LibraryActor as library
use Rattle.pt_node.specs.declared.body.Held.{Held}
use Rattle.pt_node.specs.Shown.{Shown, Branch}
use Rattle.pt_node.specs.View.{Tree, node_of, kept_of, count_of, Outline, outline_of, text_at, maximum_at}
use Rattle.pt_node.specs.Reset.{KeepsRecords}
use Rattle.pt_node.specs.Live.{HasFired, IsLive, is_live}
use Rattle.pt_node.specs.Stuck.{fault_of}
use Rattle.pt_node.specs.Full.{told_by, IsToldFull}
use Rattle.pt_turns.specs.declared.within.Within.{Within}
use Rattle.pt_turns.specs.declared.within.Within.TheVariants.{Done, Fault, Spent, Full, Memory}

-- the outcome of a firing at each fuel, without the node's own record
abbrev pub outcome : Meets → Tree → Tag → Streams Token → ℕ → Outcome Token Tree
outcome m n tag X k = step_at rows k (tree.height n) m tag n X

-- it was left off in the middle, with a log that is shut
abbrev pub IsLeftOff : Meets → Tree → Tag → Streams Token → Kept Token → Kept Token → Type 0
IsLeftOff m n tag X old new = LeavesOff (outcome m n tag X) (IsShut rows m n tag X None) old new

-- it is stuck at this place, with a log that is shut and goes up to it
abbrev pub IsStuckIn : Meets → Tree → Tag → Streams Token → machine.Fault → Kept Token → Kept Token → Type 0
IsStuckIn m n tag X f old new = SticksAt (outcome m n tag X) (IsShut rows m n tag X (Some f)) f old new

-- a node with one firing more at the tag
abbrev pub fired : Tag → Tree → Tree
fired tag (tree.Actor h a b) = tree.Actor (tree.fired_at tag h) a b
fired tag (tree.Composite h c d kids) = tree.Composite (tree.fired_at tag h) c d kids

-- some node of the tree has the path that is told, and the firing is stuck there
abbrev pub IsStuck : Meets → Tree → Tag → Streams Token → Outline → Place → Kept Token → Kept Token → Type 0
IsStuck m n tag X o place old new = (p : Path) × (text_at o p ≡ Some place.path) × IsStuckIn m n tag X (fault_of p place) old new

-- The firing gets a network of the tree into a jam, which is told by the names of the tree: by the maximum capacities that its directors state, and with the numbers of finished firings that are kept.
pub record IsJam (m : Meets) (n : Tree) (tag : Tag) (X : Streams Token) (names : Outline) (blocked : Blocked) (new : Kept Token) : Type 0 where
  pub path : Path
  pub full : List (ℕ × ℕ)
  pub told : IsToldFull names path full blocked
  pub jams : FromSome (λ k. IsJammed rows k path m (maximum_at names) (λ p. (new p).count) n tag X full)

-- it was left off with a log that is shut, where it gets a network into a jam
abbrev pub IsFull : Meets → Tree → Tag → Streams Token → Outline → Blocked → Kept Token → Kept Token → Type 0
IsFull m n tag X names blocked old new = IsLeftOff m n tag X old new × IsJam m n tag X names blocked new

-- A firing of a node that isn't recorded yet, under the meetings that were recorded: it is done, or stuck at the place that is told, or it was left off, in a jam where that is told.
abbrev pub WithinTo : Shown → Tag → Streams Token → Within → Shown → Type 0
WithinTo old tag X (Done out) new = (m : Meets) → AreMadeWithin m (kept_of new) → FiresTo (outcome m (node_of old) tag X) (fired tag (node_of new)) out (kept_of old) (kept_of new)
WithinTo old tag X (Fault place) new = (m : Meets) → AreMade m (kept_of new) → IsStuck m (node_of old) tag X (outline_of old) place (kept_of old) (kept_of new)
WithinTo old tag X Spent new = (m : Meets) → AreMade m (kept_of new) → IsLeftOff m (node_of old) tag X (kept_of old) (kept_of new)
WithinTo old tag X (Full blocked) new = (m : Meets) → AreMade m (kept_of new) → IsFull m (node_of old) tag X (outline_of old) blocked (kept_of old) (kept_of new)
WithinTo old tag X Memory new = (m : Meets) → AreMade m (kept_of new) → IsLeftOff m (node_of old) tag X (kept_of old) (kept_of new)

-- the allowance is spent where that is told
abbrev pub SpendsAll : Within → ℕ → Type 0
SpendsAll (Done out) left = Unit {0}
SpendsAll (Fault place) left = Unit {0}
SpendsAll Spent left = left ≡ 0
SpendsAll (Full blocked) left = Unit {0}
SpendsAll Memory left = Unit {0}

-- after a firing that is done the node fits, once that is recorded
abbrev pub StaysFit : Within → Shown → Type 0
StaysFit (Done out) new = HasFired new
StaysFit (Fault place) new = Unit {0}
StaysFit Spent new = Unit {0}
StaysFit (Full blocked) new = Unit {0}
StaysFit Memory new = Unit {0}

-- What a call answers, under the meetings that were recorded: the step is done with the node's own record, or stuck at the place, or it was left off, in a jam where that is told.
abbrev pub AnswersTo : Shown → Tag → Streams Token → (allowance : ℕ) → Answer → Shown → Type 0
AnswersTo old tag X allowance (answer.Done out) new = ((m : Meets) → AreMadeBefore m (kept_of new) → FiresTo (λ k. Step k rows m (node_of old) tag X) (node_of new) out (kept_of old) (kept_of new)) × IsLive new
AnswersTo old tag X allowance (answer.Fault place) new = (m : Meets) → AreMade m (kept_of new) → (p : Path) × (text_at (outline_of old) p ≡ Some place.path) × SticksAt (λ k. Step k rows m (node_of old) tag X) (IsShut rows m (node_of old) tag X (Some (fault_of p place))) (fault_of p place) (kept_of old) (kept_of new)
AnswersTo old tag X allowance (answer.Spent count) new = (count_of new ≡ count_of old + count) × (allowance ≤ count) × ((m : Meets) → AreMade m (kept_of new) → LeavesOff (λ k. Step k rows m (node_of old) tag X) (IsShut rows m (node_of old) tag X None) (kept_of old) (kept_of new))
AnswersTo old tag X allowance (answer.Full blocked) new = (m : Meets) → AreMade m (kept_of new) → LeavesOff (λ k. Step k rows m (node_of old) tag X) (IsShut rows m (node_of old) tag X None) (kept_of old) (kept_of new) × IsJam m (node_of old) tag X (outline_of old) blocked (kept_of new)
AnswersTo old tag X allowance answer.Memory new = (m : Meets) → AreMade m (kept_of new) → LeavesOff (λ k. Step k rows m (node_of old) tag X) (IsShut rows m (node_of old) tag X None) (kept_of old) (kept_of new)

-- after a call that ended otherwise than done the node is live no more
abbrev pub EndsLive : Answer → Shown → Type 0
EndsLive (answer.Done out) new = is_live new ≡ true
EndsLive (answer.Fault place) new = is_live new ≡ false
EndsLive (answer.Spent count) new = is_live new ≡ false
EndsLive (answer.Full blocked) new = is_live new ≡ false
EndsLive answer.Memory new = is_live new ≡ false

-- the firing of that number is told stuck at the path, or there was no memory for it
abbrev pub IsFaultAt : List ℕ → ℕ → RunFault → Within → Type 0
IsFaultAt path firing kind (Done out) = ⊥
IsFaultAt path firing kind (Fault place) = (place.path ≡ path) × (place.firing ≡ firing) × (place.kind ≡ kind)
IsFaultAt path firing kind Spent = ⊥
IsFaultAt path firing kind (Full blocked) = ⊥
IsFaultAt path firing kind Memory = Unit {0}

-- the network at the path is told full, with these channels by their labels, or there was no memory for it
abbrev pub IsFullAt : (path : List ℕ) → (labels : List (List ℕ)) → (full : List (ℕ × ℕ)) → Within → Type 0
IsFullAt path labels full (Done out) = ⊥
IsFullAt path labels full (Fault place) = ⊥
IsFullAt path labels full Spent = ⊥
IsFullAt path labels full (Full blocked) = (blocked.path ≡ path) × (blocked.channels ≡ told_by labels full)
IsFullAt path labels full Memory = Unit {0}

-- the path and the number of firings of a node
abbrev pub path_of : Shown → List ℕ
path_of (Branch f ks) = f.path

abbrev pub made_of : Shown → ℕ
made_of (Branch f ks) = f.past.made

-- A firing of a node at a tag that is done with these outputs and isn't recorded yet. How often it and all within it fired, what is recorded of them, and their names are as before.
pub record GaveAt (tag : Tag) (old : Shown) (X out : Streams Token) (new : Shown) : Type 0 where
  pub goes : WithinTo old tag X (Done out) new
  pub fit : HasFired new
  pub keeps : KeepsRecords old new

-- A firing of a node, whatever its tag, that is done with these outputs. It isn't recorded yet.
pub record Gave (old : Shown) (X out : Streams Token) (new : Shown) : Type 0 where
  pub goes : (tag : Tag) → WithinTo old tag X (Done out) new
  pub fit : HasFired new
  pub outline : outline_of new ≡ outline_of old
  pub count : count_of new ≡ count_of old

-- such a firing was made and gave one number on its one port, or nothing was done
abbrev pub NumberTo : Shown → Streams Token → Option ℤ → Shown → Type 0
NumberTo old X (Some n) new = Gave old X ((Int n ∷ []) ∷ []) new
NumberTo old X None new = new ≡ old

-- such a firing was made and gave just these numbers on its one port, or nothing was done
abbrev pub SeveralTo : Shown → Streams Token → Bool → List ℤ → Shown → Type 0
SeveralTo old X true ns new = Gave old X (map Int ns ∷ []) new
SeveralTo old X false ns new = new ≡ old

-- the same once the number of firings is known to be as before
abbrev pub Given : Option ℤ → Shown → Streams Token → Shown → Type 0
Given (Some n) old X new = Gave old X ((Int n ∷ []) ∷ []) new × (made_of new ≡ made_of old)
Given None old X new = new ≡ old

-- a step of a library actor: it gives what its row answers, or is told stuck as the row says, or there was no memory for it
abbrev pub ActorTo : Held → List ℕ → ℕ → Tag → Streams Token → Within → Held → Type 0
ActorTo old path made tag X (Done out) new = (library.step tag old.actor X ≡ tree.Gives new.actor out) × (new.start ≡ old.start)
ActorTo old path made tag X (Fault place) new = (library.step tag old.actor X ≡ tree.Fails (code_of place.kind)) × (place.path ≡ path) × (place.firing ≡ made)
ActorTo old path made tag X Spent new = ⊥
ActorTo old path made tag X (Full blocked) new = ⊥
ActorTo old path made tag X Memory new = Unit {0}

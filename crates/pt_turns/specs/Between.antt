-- Where the firing of a composite stands between two firings of its children. What is under way is the director's own affair.
use Rattle.std.specs.Prelude.{◌≡◌, ℕ, ℤ, ◌+◌, ◌<◌, ◌≤◌, List, Option, Some, set}
use Rattle.pt_meaning.specs.Basics.{Tag, Streams}
use Rattle.pt_meaning.specs.Streams.{get}
use Rattle.pt_meaning.specs.Meetings.{Meets}
use Rattle.pt_meaning.specs.Tree as tree
use Rattle.pt_value.specs.declared.token.Token.{Token}
use Rattle.pt_firing.specs.declared.ask.Ask.{Ask}
use Rattle.pt_firing.specs.declared.ask.Ask.TheVariants as ask
use Rattle.pt_records.specs.Kept.{Made}
use Rattle.pt_records.specs.Made.{AllMadeBefore}
use Rattle.pt_core.specs.Acts.{Beginning, Acts}
use Rattle.pt_library.specs.declared.library_actor.LibraryActor.{LibraryActor}
use Rattle.pt_library.specs.LibraryActor.{rows}
use Rattle.pt_directors.specs.Directors.{Director}
use Rattle.pt_node.specs.Acts.{acts}
use Rattle.pt_node.specs.Shown.{Shown, AllShown, all_of}
use Rattle.pt_node.specs.View.{nodes_of, kepts_of, outlines_of, counts_of}
use Rattle.pt_node.specs.Live.{AllFit}
use Rattle.pt_turns.specs.declared.rest.Rest.{Rest}
use Rattle.pt_turns.specs.declared.rest.Rest.TheVariants as rest
use Rattle.pt_turns.specs.Within.{Given}
use Rattle.pt_turns.specs.OwnMeetings.{OwnMeetings, own_of, AreRecorded}

module _ {D : Type 0} (a : Acts rows D) where
  -- how the firing began, under these meetings
  abbrev pub beginning : Meets → D → AllShown → Tag → Streams Token → Beginning LibraryActor D
  beginning m before olds tag inputs = record { meets = m; tag = tag; before = before; kids = nodes_of olds; inputs = inputs; olds = kepts_of olds }

  -- The firing began from the director `before` and the children olds, and is under way at the state s and the children now: what is kept of them went on as the definitions say, under the meetings that were recorded of the finished firings.
  pub record Going (before : D) (olds : AllShown) (tag : Tag) (inputs : Streams Token) (s : D) (now : AllShown) : Type 0 where
    pub fit : AllFit now
    pub so_far : (m : Meets) → AllMadeBefore m (kepts_of now) → a.Underway (beginning m before olds tag inputs) s (tree.list_of (nodes_of now)) (kepts_of now)

  -- It has come so far. The children have their names, the director states the maximum capacity that it stated, what is recorded of the composite's own meetings has those that it has told, and the allowance was lowered by each firing of a child.
  pub record At (before : D) (olds : List Shown) (tag : Tag) (inputs : Streams Token) (allowance : ℕ) (own : OwnMeetings) (s : D) (now : List Shown) (left : ℕ) : Type 0 where
    pub going : Going before (all_of olds) tag inputs s (all_of now)
    pub outlines : outlines_of (all_of now) ≡ outlines_of (all_of olds)
    pub maximum : a.calls.maximum s ≡ a.calls.maximum before
    pub met : AreRecorded (a.calls.met s) own
    pub counted : counts_of (all_of now) + left ≡ counts_of (all_of olds) + allowance
    pub lowered : left ≤ allowance

  -- the same of a firing at this tag that began in some way
  pub record IsUnderWay (tag : Tag) (s : D) (now : List Shown) (left : ℕ) : Type 0 where
    pub before : D
    pub olds : List Shown
    pub inputs : Streams Token
    pub allowance : ℕ
    pub own : OwnMeetings
    pub at : At before olds tag inputs allowance own s now left

  -- the same where this is recorded now of the composite's own meetings, in its firing of that number
  pub record IsUnderWayWith (tag : Tag) (number : ℕ) (made : Option Made) (s : D) (now : List Shown) (left : ℕ) : Type 0 where
    pub before : D
    pub olds : List Shown
    pub inputs : Streams Token
    pub allowance : ℕ
    pub start : Option Made
    pub at : At before olds tag inputs allowance (own_of number start made) s now left

  -- the director was asked in such a state, and answered next
  pub record Between (before : D) (olds : List Shown) (tag : Tag) (inputs : Streams Token) (allowance : ℕ) (own : OwnMeetings) (next : Ask) (s : D) (now : List Shown) (left : ℕ) : Type 0 where
    pub state : D
    pub at : At before olds tag inputs allowance own state now left
    pub gives : a.calls.Gives state next
    pub asking : s ≡ a.calls.asking next state

  -- the same of a firing at this tag that began in some way, where this is recorded now
  pub record IsAskedUnderWay (tag : Tag) (number : ℕ) (made : Option Made) (next : Ask) (s : D) (now : List Shown) (left : ℕ) : Type 0 where
    pub before : D
    pub olds : List Shown
    pub inputs : Streams Token
    pub allowance : ℕ
    pub start : Option Made
    pub between : Between before olds tag inputs allowance (own_of number start made) next s now left

  -- It is the turn of child i at a tag. Its firing gave one number already, of which the director wasn't told yet, or isn't made; the other children are as they were when the director asked for it.
  pub record InTurn (before : D) (olds : List Shown) (tag : Tag) (inputs : Streams Token) (allowance : ℕ) (own : OwnMeetings) (i : ℕ) (when : Tag) (given : Option ℤ) (s : D) (now : List Shown) (left : ℕ) : Type 0 where
    pub kids : List Shown
    pub child : Shown
    pub mid : Shown
    pub there : get kids i ≡ Some child
    pub between : Between before olds tag inputs allowance own (ask.Fire i when) s kids left
    pub others : now ≡ set kids i mid
    pub gave : Given given child (a.calls.lent_of s) mid
    pub some : 0 < left

  -- It is left off here for want of memory: nothing was recorded since it had come so far.
  pub record Halts (before : D) (olds : List Shown) (tag : Tag) (inputs : Streams Token) (allowance : ℕ) (own : OwnMeetings) (s : D) (now : List Shown) (left : ℕ) : Type 0 where
    pub state : D
    pub kids : List Shown
    pub at : At before olds tag inputs allowance own state kids left
    pub kept : kepts_of (all_of now) ≡ kepts_of (all_of kids)
    pub outlines : outlines_of (all_of now) ≡ outlines_of (all_of kids)
    pub counts : counts_of (all_of now) ≡ counts_of (all_of kids)
    pub maximum : a.calls.maximum s ≡ a.calls.maximum before

-- so it is after a row of firings of numbers alone: it is the turn of a child, or the director has this answer, or memory was wanting, or nothing is left and the director wasn't asked
abbrev pub Rested : Director → List Shown → Tag → Streams Token → (allowance : ℕ) → OwnMeetings → Rest → Director → List Shown → (left : ℕ) → Type 0
Rested before olds tag X allowance own (rest.Turn i when given) s now left = InTurn acts before olds tag X allowance own i when given s now left
Rested before olds tag X allowance own (rest.Asked next) s now left = Between acts before olds tag X allowance own next s now left
Rested before olds tag X allowance own rest.Memory s now left = Halts acts before olds tag X allowance own s now left
Rested before olds tag X allowance own rest.Spent s now left = (left ≡ 0) × At acts before olds tag X allowance own s now left

-- the same of a firing at this tag that began in some way, where this is recorded now
pub record IsRestedUnderWay (tag : Tag) (number : ℕ) (made : Option Made) (rest : Rest) (s : Director) (now : List Shown) (left : ℕ) : Type 0 where
  pub before : Director
  pub olds : List Shown
  pub inputs : Streams Token
  pub allowance : ℕ
  pub start : Option Made
  pub rested : Rested before olds tag inputs allowance (own_of number start made) rest s now left

-- What the calls of a director do to its states.
use Rattle.std.specs.Prelude.{ℕ, List, Option, Bool}
use Rattle.pt_meaning.specs.Tag.{Tag}
use Rattle.pt_meaning.specs.Streams.{Streams}
use Rattle.pt_meaning.specs.Log.{Meeting}
use Rattle.pt_meaning.specs.Machine.{Need, Partial}
use Rattle.pt_meaning.specs.Meetings.{Meets}
use Rattle.pt_meaning.specs.Tree.{Rows, Core, Node, Nodes}
use Rattle.pt_value.specs.declared.token.Token.{Token}
use Rattle.pt_firing.specs.declared.ask.Ask.{Ask}
use Rattle.pt_firing.specs.declared.fault.RunFault.{RunFault}
use Rattle.pt_records.specs.Kept.{Kept}

-- How a firing of a composite began: under these meetings, at a tag, from a state of its director, on these children and inputs, and with this kept of the children.
pub record Beginning (A C : Type 0) : Type 0 where
  pub meets : Meets
  pub tag : Tag
  pub before : C
  pub kids : Nodes Token A
  pub inputs : Streams Token
  pub olds : List (Kept Token)

-- The calls of a director whose states are C. Each but `ask` is a function of the state; `ask` may answer what `Gives` says, and its answer tells the state after it.
pub record Calls (C : Type 0) : Type 1 where
  -- the director among the definitions, with what it holds at the start, and what it holds now
  pub start_of : C → Core Token
  pub core_of : C → Core Token
  -- no firing is under way; these inputs fit it, a list for each own input; a firing of the composite begins
  pub IsIdle : C → Type 0
  pub Takes : C → Streams Token → Type 0
  pub begun : Tag → Streams Token → C → C
  -- it may be asked what comes next, may answer so, and stands so after it
  pub MayAsk : C → Type 0
  pub Gives : C → Ask → Type 0
  pub asking : Ask → C → C
  -- the child that was asked to fire, and the inputs that it takes, which may be lent once they are handed over
  pub asked_of : C → Option ℕ
  pub lent_of : C → Streams Token
  pub handed : C → C
  pub MayLend : C → Type 0
  -- the child that was asked for an early answer, and what is known of its inputs
  pub listened_of : C → Option ℕ
  pub partial_of : C → List (Partial Token)
  -- whether it accepts what a child gave that was asked for, and the fault of one that gave anything else
  pub accepts : C → ℕ → Streams Token → Bool
  pub refusal : C → RunFault
  -- a child has fired, gave this, and has this wake and this need from now on; what the child told last gave wasn't accepted
  pub told : ℕ → Streams Token → (wake : Option Tag) → (need : Need) → C → C
  pub is_wrong : C → Bool
  -- a child gave this early
  pub heard : ℕ → List (Partial Token) → C → C
  -- each child has fired enough; the own outputs, and the director once they are handed out
  pub MayFinish : C → Type 0
  pub own_of : C → Streams Token
  pub closed : C → C
  -- the composite's own wake, where no firing is under way
  pub wake : C → Option Tag
  -- its start is brought back
  pub restarted : C → C
  -- so many early answers, resets and moves may come before it asks for a firing
  pub waits : C → ℕ
  -- the maximum capacity of a channel that its director states, 0 where it states none, and where it is full the channels that are waited for, by number, each with its length
  pub maximum : C → ℕ
  pub blocked : C → List (ℕ × ℕ)
  -- the meetings made in the firing that is under way, in order, and None of a director that makes none
  pub met : C → Option (List Meeting)

-- How they make firings of a composite whose children are nodes of a library of actors.
pub record Acts {A : Type 0} (rows : Rows Token A) (C : Type 0) : Type 1 where
  pub calls : Calls C
  -- no firing is under way, and the director fits these children, whatever they fire
  pub Fits : C → List (Node Token A) → Type 0
  -- A firing that began so has come to this state of the director and these children, and what is kept of them went on so.
  pub Underway : Beginning A C → C → List (Node Token A) → List (Kept Token) → Type 0

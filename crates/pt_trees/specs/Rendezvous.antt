-- Composites of Rendezvous: the net of the wiring, round children each of which is a process that meets others (Hoare 1978, "Communicating Sequential Processes"; the book, "Process Networks and Rendezvous").
use Rattle.std.specs.Prelude.{◌≡◌, ℕ, ◌+◌, ◌^◌, ◌<◌, List, [], length, map, get_or, Bool, true, false, Option, Some}
use Rattle.pt_meaning.specs.Machine.{Need, Over, Counts, Any}
use Rattle.pt_meaning.specs.NodeFacts.{need_of}
use Rattle.pt_meaning.specs.Rendezvous.{RvPlan, first_places}
use Rattle.pt_meaning.specs.Running.{total}
use Rattle.pt_meaning.specs.Streams.{get}
use Rattle.pt_meaning.specs.Tree as tree
use Rattle.pt_laws.specs.StartedRuns.{AllThere}
use Rattle.pt_value.specs.declared.token.Token.{Token}
use Rattle.pt_library.specs.LibraryActor as library
use Rattle.pt_library.specs.LibraryActor.{rows}
use Rattle.pt_node.specs.View.{Tree}
use Rattle.pt_stated.specs.declared.stated.Stated.{Stated}
use Rattle.pt_trees.specs.Around.{Around}
use Rattle.pt_trees.specs.Composing.{Composing}

-- a child is a Barrier where its library says so of the actor, and no composite is one
abbrev pub is_barrier : Tree → Bool
is_barrier (tree.Actor h a b) = library.is_barrier b
is_barrier (tree.Composite h c d kids) = false

-- the plan of a composite with this wiring: which of these children are Barriers, and how many tokens a firing takes from each own input, as it is stated
abbrev pub rv_plan : Around → List Tree → Stated → RvPlan
rv_plan around kids stated = record { net = record { sources = around.sources; places = around.places }; barriers = map is_barrier kids; takes = stated.takes }

-- A process has so many places: it needs a count for each of them, or one token from any. None is over at its start.
abbrev pub IsPlaced : ℕ → Need → Type 0
IsPlaced places Over = ⊥
IsPlaced places (Counts ns) = length ns ≡ places
IsPlaced places Any = Unit {0}

-- each child has so many places
abbrev pub AllPlaced : List ℕ → List Tree → Type 0
AllPlaced places kids = (i : ℕ) (kid : Tree) → get kids i ≡ Some kid → IsPlaced (get_or places i 0) (need_of rows kid)

-- a number is stated for each own port
pub record HasRates (inputs outputs : ℕ) (stated : Stated) : Type 0 where
  pub takes : length stated.takes ≡ inputs
  pub gives : length stated.gives ≡ outputs

-- The wiring has a channel for each place of these children and for each own output, which begins at an own input or at a child; each child has so many places; and there are few enough of both.
pub record IsMet (around : Around) (kids : List Tree) : Type 0 where
  pub children : length kids ≡ length around.places
  pub placed : AllPlaced around.places kids
  pub channels : length around.sources ≡ total around.places + around.outputs
  pub there : AllThere around.inputs (length around.places) around.sources
  pub few : length around.sources < 2 ^ 32
  pub fewer : length around.places < 2 ^ 32

-- whether it has
abbrev pub IsMetIf : Around → List Tree → Bool → Type 0
IsMetIf around kids true = IsMet around kids
IsMetIf around kids false = IsMet around kids → ⊥

-- the wiring is one of a Rendezvous composite round these children, with what is stated of its own ports
pub record IsRvWired (around : Around) (kids : List Tree) : Type 0 where
  pub met : IsMet around kids
  pub stated : Stated
  pub is : around.stated ≡ Some stated
  pub rated : HasRates around.inputs around.outputs stated

-- the core of Rendezvous: its net is that of the wiring, nothing is gathered, and nothing is to be put
pub record IsRvCore (around : Around) (kids : List Tree) (core : tree.Core Token) : Type 0 where
  pub wired : IsRvWired around kids
  pub is : core ≡ tree.Rv (rv_plan around kids wired.stated) (first_places (rv_plan around kids wired.stated))

-- no composite of Rendezvous is refused, its channels hold nothing, and its meetings are recorded
abbrev pub rendezvous : Composing
rendezvous = record { IsCore = IsRvCore; IsMisfit = λ around kids. IsRvWired around kids → ⊥; IsRefused = λ around kids code. ⊥; maximum = λ around. 0; meetings = Some [] }

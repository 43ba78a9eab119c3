-- Composites of PN: the net of the wiring, round children each of which is a process (Kahn 1974; the book, "Process Networks and Rendezvous").
use Rattle.std.specs.Prelude.{◌≡◌, ℕ, ◌<◌, ◌≤◌, List, length, Option, Some, None, true, Bool, false}
use Rattle.pt_meaning.specs.Pn.{PnPlan}
use Rattle.pt_meaning.specs.Start.{first_held}
use Rattle.pt_meaning.specs.Tree as tree
use Rattle.pt_value.specs.declared.token.Token.{Token}
use Rattle.pt_library.specs.LibraryActor.{rows}
use Rattle.pt_node.specs.View.{Tree}
use Rattle.pt_stated.specs.declared.capacities.Capacities.{Capacities}
use Rattle.pt_stated.specs.declared.stated.Stated.{Stated}
use Rattle.pt_trees.specs.Around.{Around}
use Rattle.pt_trees.specs.Composing.{Composing}
use Rattle.pt_trees.specs.Sr.{IsWired}

-- the net of a composite with this wiring, of which a firing takes from each own input as many tokens as are stated
abbrev pub pn_plan : Around → Stated → PnPlan
pn_plan around stated = record { net = record { sources = around.sources; places = around.places }; takes = stated.takes }

-- What is stated is lawful for so many own ports: there are capacities, a channel holds a token at first, and not more than at most; and each port has a number.
pub record IsStatedFor (inputs outputs : ℕ) (stated : Stated) : Type 0 where
  pub capacities : Capacities
  pub are : stated.capacities ≡ Some capacities
  pub holds : 0 < capacities.initial
  pub grows : capacities.initial ≤ capacities.maximum
  pub takes : length stated.takes ≡ inputs
  pub gives : length stated.gives ≡ outputs

-- The wiring is one of a PN composite round these children: as under SR, so that each child has so many places by its need, and with what is stated, which is lawful.
pub record IsPnWired (around : Around) (kids : List Tree) : Type 0 where
  pub wired : IsWired around kids
  pub stated : Stated
  pub is : around.stated ≡ Some stated
  pub lawful : IsStatedFor around.inputs around.outputs stated

-- whether it is one
abbrev pub IsPnWiredIf : Around → List Tree → Bool → Type 0
IsPnWiredIf around kids true = IsPnWired around kids
IsPnWiredIf around kids false = IsPnWired around kids → ⊥

-- the core of PN: its net is that of the wiring, and its channels hold the first tokens
pub record IsPnCore (around : Around) (kids : List Tree) (core : tree.Core Token) : Type 0 where
  pub wired : IsPnWired around kids
  pub is : core ≡ tree.Pn (pn_plan around wired.stated) (first_held rows kids around.sources)

-- the most that a channel may hold, as it is stated
abbrev pub most_of : Option Capacities → ℕ
most_of None = 0
most_of (Some capacities) = capacities.maximum

abbrev pub most_stated : Option Stated → ℕ
most_stated None = 0
most_stated (Some stated) = most_of stated.capacities

-- no composite of PN is refused
abbrev pub pn : Composing
pn = record { IsCore = IsPnCore; IsMisfit = λ around kids. IsPnWired around kids → ⊥; IsRefused = λ around kids code. ⊥; maximum = λ around. most_stated around.stated; meetings = None }

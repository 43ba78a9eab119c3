-- The logs of a model that is run from its start are closed.
use Rattle.std.specs.Prelude.{ℕ, ◌≤◌, ◌<◌, List, [], ◌∷◌, length}
use Rattle.pt_meaning.specs.Log.{LogBelow}
use Rattle.pt_meaning.specs.Net.{Source, Own, Output, Net}
use Rattle.pt_meaning.specs.Running.{total}
use Rattle.pt_meaning.specs.Meetings.{Meets}
use Rattle.pt_meaning.specs.Tree.{Rows, Core, Sdf, Pn, Sr, De, Rv, Modal, Node, Nodes, Actor, Composite, none, more}
use Rattle.pt_meaning.specs.Start.{IsAtStart}
use Rattle.pt_meaning.specs.Job.{Schedule, meaning}
use Rattle.pt_meaning.specs.Closed.{UnderWay, IsClosedRun}
use Rattle.pt_meaning.specs.Lawful.{LawfulRows}
use Rattle.pt_laws.specs.Heights.{IsFitting}

-- the source is one of so many own inputs, or at one of so many children
abbrev pub IsThere : (inputs children : ℕ) → Source → Type 0
IsThere inputs children (Own port) = port < inputs
IsThere inputs children (Output child port) = child < children

-- and so is each of these
abbrev pub AllThere : (inputs children : ℕ) → List Source → Type 0
AllThere inputs children [] = Unit {0}
AllThere inputs children (c ∷ cs) = IsThere inputs children c × AllThere inputs children cs

-- each of these numbers is below the bound
abbrev pub AllBelow : (bound : ℕ) → List ℕ → Type 0
AllBelow bound [] = Unit {0}
AllBelow bound (n ∷ ns) = (n < bound) × AllBelow bound ns

-- A net of so many own inputs is whole: it has a channel for each place of a child, and each channel begins at an own input or at a child that is there.
pub record IsWhole (net : Net) (inputs : ℕ) : Type 0 where
  pub channels : total net.places ≤ length net.sources
  pub there : AllThere inputs (length net.places) net.sources

-- The plan of each composite has a channel for each place of a child, and these channels begin at what is there. A refinement reads own inputs that are there.
abbrev pub IsPlanned : {T : Type 0} → Core T → Type 0
IsPlanned (Sdf p X) = total p.net.places ≤ length p.net.sources
IsPlanned (Pn p X) = IsWhole p.net (length p.takes)
IsPlanned (Sr p) = IsWhole p.net p.inputs
IsPlanned (De p) = IsWhole p.net p.inputs
IsPlanned (Rv p X) = IsWhole p.net (length p.takes)
IsPlanned (Modal chart m) = (i : ℕ) → AllBelow chart.inputs (chart.in_ports i)

abbrev mutual
  pub ArePlans : {T A : Type 0} → Node T A → Type 0
  ArePlans (Actor h a b) = Unit {0}
  ArePlans (Composite h c d kids) = IsPlanned c × AllPlans kids

  pub AllPlans : {T A : Type 0} → Nodes T A → Type 0
  AllPlans none = Unit {0}
  AllPlans (more n ns) = ArePlans n × AllPlans ns

-- The log of the meaning at any fuel is closed, as a part of that at each greater one.
abbrev pub StartedLogsAreClosed : Type 0 → Type 0 → Type 0
StartedLogsAreClosed T A = (rows : Rows T A) → LawfulRows rows → (m : Meets) (plan : Schedule T A) (top : Node T A) → IsFitting top → ArePlans top → IsAtStart rows top → (k : ℕ) → (way : UnderWay T) × ((k' : ℕ) → k ≤ k' → IsClosedRun rows m plan top (meaning k' rows m plan top) (meaning k rows m plan top) way)

-- So a report whose log is that of the meaning at some fuel has its closed log: at each fuel of which it is a beginning.
abbrev pub StartedLogsAreShut : Type 0 → Type 0 → Type 0
StartedLogsAreShut T A = (rows : Rows T A) → LawfulRows rows → (m : Meets) (plan : Schedule T A) (top : Node T A) → IsFitting top → ArePlans top → IsAtStart rows top → (fuel : ℕ) → (way : UnderWay T) × ((k : ℕ) → LogBelow (meaning fuel rows m plan top) (meaning k rows m plan top) → IsClosedRun rows m plan top (meaning k rows m plan top) (meaning fuel rows m plan top) way)

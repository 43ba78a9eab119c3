-- Composites of SDF: a plan of what is within, and the first tokens on the channels.
use Rattle.std.specs.Prelude.{◌≡◌, ◌⊎◌, ℕ, ◌+◌, ◌<◌, ◌^◌, List, length, map, Option, Some, None}
use Rattle.pt_meaning.specs.Net as net
use Rattle.pt_meaning.specs.NodeFacts.{facts_of}
use Rattle.pt_meaning.specs.Sdf.{SdfPlan}
use Rattle.pt_meaning.specs.Start.{first_held}
use Rattle.pt_meaning.specs.Tree as tree
use Rattle.pt_value.specs.declared.token.Token.{Token}
use Rattle.pt_document.specs.declared.code.Code.{Code}
use Rattle.pt_document.specs.declared.code.Code.TheVariants as code
use Rattle.pt_sdf_parts.specs.ByNeed.{needs_of, planned}
use Rattle.pt_core.specs.Source.{source_of}
use Rattle.pt_plan.specs.declared.inside.Inside.{Inside}
use Rattle.pt_plan.specs.declared.planning.PlanFault.{PlanFault}
use Rattle.pt_plan.specs.declared.planning.PlanFault.TheVariants as plan_fault
use Rattle.pt_plan.specs.Inside.{IsInside}
use Rattle.pt_plan.specs.PlanOf.{IsPlanOf, IsWithinLimits}
use Rattle.pt_plan.specs.Fault.{FaultStands}
use Rattle.pt_library.specs.LibraryActor.{rows}
use Rattle.pt_node.specs.View.{Tree}
use Rattle.pt_trees.specs.Rates.{HaveRates, AreSteady, HasUnsteady}
use Rattle.pt_trees.specs.Around.{Around}
use Rattle.pt_trees.specs.Composing.{Composing}

-- how many tokens stand on each channel at the start
abbrev pub first_counts : List Tree → List net.Source → List ℕ
first_counts kids sources = map (λ (xs : List Token). length xs) (first_held rows kids sources)

-- The inside of an SDF composite with this wiring round these children: each child needs its numbers of tokens at its places, the same at each firing, and gives its rates, or is to give those that are declared,
-- and the first tokens stand on the channels.
pub record IsInsideOf (around : Around) (kids : List Tree) (x : Inside) : Type 0 where
  pub sources : map source_of x.sources.items ≡ around.sources
  pub places : x.places ≡ around.places
  pub needs : needs_of (facts_of rows) kids ≡ planned around.places x.needs
  pub steady : AreSteady kids
  pub rates : HaveRates around.declared kids x.rates.items
  pub first : x.first ≡ first_counts kids around.sources
  pub inputs : x.inputs ≡ around.inputs
  pub outputs : x.outputs ≡ around.outputs

-- it has one that is well formed
abbrev pub HasInside : Around → List Tree → Type 0
HasInside around kids = (x : Inside) × IsInsideOf around kids x × IsInside x

-- The core of SDF: its plan is that of the inside, within the limits, and its channels hold the first tokens.
pub record IsSdfCore (around : Around) (kids : List Tree) (core : tree.Core Token) : Type 0 where
  pub inside : Inside
  pub is_inside : IsInsideOf around kids inside
  pub plan : SdfPlan
  pub planned : IsPlanOf inside plan
  pub within : IsWithinLimits inside plan
  pub is : core ≡ tree.Sdf plan (first_held rows kids plan.net.sources)

-- It has none, though there are few enough channels that each own input may have one more: with more than these nothing is told but want of memory.
pub record IsUnfit (around : Around) (kids : List Tree) : Type 0 where
  pub few : length around.sources + around.inputs < 2 ^ 32
  pub without : HasInside around kids → ⊥

-- SDF can't plan a child, or what is within isn't well formed
abbrev pub IsUnplannable : Around → List Tree → Type 0
IsUnplannable around kids = HasUnsteady around kids ⊎ IsUnfit around kids

-- the code that a composite without a plan is refused with
abbrev pub IsCodeOf : PlanFault → Code → Type 0
IsCodeOf plan_fault.Rates c = c ≡ code.Rates
IsCodeOf plan_fault.Limit c = c ≡ code.Limit
IsCodeOf plan_fault.Deadlock c = c ≡ code.SdfDeadlock
IsCodeOf plan_fault.Memory c = ⊥

-- the inside has no plan, for a fault that this code tells
pub record IsUnplanned (around : Around) (kids : List Tree) (c : Code) : Type 0 where
  pub inside : Inside
  pub is_inside : IsInsideOf around kids inside
  pub fault : PlanFault
  pub stands : FaultStands inside fault
  pub code_is : IsCodeOf fault c

abbrev pub sdf : Composing
sdf = record { IsCore = IsSdfCore; IsMisfit = IsUnplannable; IsRefused = IsUnplanned; maximum = λ around. 0; meetings = None }

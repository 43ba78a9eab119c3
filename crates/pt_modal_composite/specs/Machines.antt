-- The core of a Modal entity as it is built.
use Rattle.std.specs.Prelude.{◌≡◌, ℕ, List, map, true, Option, Some, None}
use Rattle.pt_meaning.specs.NodeFacts.{next_of}
use Rattle.pt_chart.specs.Chart.{chart_of}
use Rattle.pt_chart.specs.Machine.{Machine}
use Rattle.pt_chart.specs.Typed.{is_typed_machine}
use Rattle.pt_library.specs.LibraryActor.{rows}
use Rattle.pt_modal_laws.specs.ModalActs.{State}
use Rattle.pt_modal_laws.specs.State.{started}
use Rattle.pt_node.specs.View.{Tree}
use Rattle.pt_trees.specs.Around.{Around}
use Rattle.pt_trees.specs.Modal.{HasRefinements, IsModalWired}

-- it starts with the machine that the wiring has, round these children, which have these wakes
pub record StartsByMachine (around : Around) (kids : List Tree) (core : State Machine) : Type 0 where
  pub wired : IsModalWired around kids
  pub is : core ≡ started chart_of (record { machine = wired.machine; starts = map (next_of rows) kids })

-- this is the chart of a machine with so many own ports, whose refinements these children are and whose guards and actions have their types; or there is none
abbrev pub IsChartRound : (inputs outputs : ℕ) → List Tree → Machine → Option Machine → Type 0
IsChartRound inputs outputs kids m (Some chart) = (chart ≡ m) × (is_typed_machine m ≡ true) × HasRefinements inputs outputs kids m
IsChartRound inputs outputs kids m None = is_typed_machine m ≡ true → HasRefinements inputs outputs kids m → ⊥

-- The states of a core by their parts.
use Rattle.std.proofs.Common.{◌≡◌, List, [], length, Option, ap, ◌∙◌}
use Rattle.pt_meaning.specs.Tag.{Tag, origin}
use Rattle.pt_meaning.specs.Streams.{Streams}
use Rattle.pt_meaning.specs.Modal.{Modes, first_modes}
use Rattle.pt_value.specs.declared.token.Token.{Token}
use Rattle.pt_chart.specs.Machine.{Machine}
use Rattle.pt_chart.specs.Chart.{chart_of}
use Rattle.pt_modal_laws.specs.State.{ModalPlan, Stage, Idle, started}
use Rattle.pt_modal_laws.specs.ModalActs.{State}
use Rattle.pt_modal.specs.declared.lists.Lists.{Lists}
use Rattle.pt_modal.specs.Lists.{IsBare}

abbrev pub state : ModalPlan Machine → Modes Token → List (Option Tag) → Tag → Streams Token → Streams Token → Stage → State Machine
state plan modes wakes tag inputs outputs stage = record { plan = plan; modes = modes; wakes = wakes; tag = tag; inputs = inputs; outputs = outputs; stage = stage }

-- where no reaction is under way the lists are bare
pub bare-is : (plan : ModalPlan Machine) (modes : Modes Token) (wakes : List (Option Tag)) (lists : Lists) → modes ≡ first_modes (chart_of plan.machine) (length plan.starts) → wakes ≡ plan.starts → IsBare lists → state plan modes wakes origin lists.inputs.items lists.outputs.items Idle ≡ started chart_of plan
bare-is plan modes wakes lists first starts bare =
    ap (λ (m : Modes Token). state plan m wakes origin lists.inputs.items lists.outputs.items Idle) first
    ∙ ap (λ (ws : List (Option Tag)). state plan (first_modes (chart_of plan.machine) (length plan.starts)) ws origin lists.inputs.items lists.outputs.items Idle) starts
    ∙ ap (λ (X : Streams Token). state plan (first_modes (chart_of plan.machine) (length plan.starts)) plan.starts origin X lists.outputs.items Idle) bare.inputs
    ∙ ap (λ (X : Streams Token). state plan (first_modes (chart_of plan.machine) (length plan.starts)) plan.starts origin [] X Idle) bare.outputs

-- What contracts see of a core.
use Rattle.pt_chart.specs.Machine.{Machine}
use Rattle.pt_chart.specs.Chart.{chart_of}
use Rattle.pt_modal_laws.specs.ModalActs.{State}
use Rattle.pt_modal.specs.declared.modal.Core.TheInside.{Inside}
use Rattle.pt_modal.specs.Stage.{stage_of, IsAtHand}

abbrev pub seen_core : Inside → State Machine
seen_core c = record { plan = c.plan; modes = c.modes; wakes = c.wakes.items; tag = c.tag; inputs = c.lists.inputs.items; outputs = c.lists.outputs.items; stage = stage_of c.stage }

-- what is lent is at hand
abbrev pub HasLent : Inside → Type 0
HasLent c = IsAtHand c.stage (chart_of c.plan.machine) c.lists.inputs.items c.lists.lent.items

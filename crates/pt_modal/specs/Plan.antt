-- What contracts see of a plan.
use Rattle.std.specs.Prelude.{◌≡◌, replicate}
use Rattle.pt_chart.specs.Machine.{Machine}
use Rattle.pt_chart.specs.Chart.{chart_of}
use Rattle.pt_modal_laws.specs.State.{ModalPlan}
use Rattle.pt_modal.specs.declared.plan.CorePlan.TheInside.{Inside}

abbrev pub plan_in : Inside → ModalPlan Machine
plan_in p = record { machine = p.chart; starts = p.starts.items }

-- one token for each own input
abbrev pub HasTakes : Inside → Type 0
HasTakes p = p.takes ≡ replicate (chart_of p.chart).inputs 1

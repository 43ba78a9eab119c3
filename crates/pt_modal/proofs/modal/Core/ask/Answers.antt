use Rattle.std.proofs.Common.{ap}
use Rattle.pt_chart.specs.Machine.{Machine}
use Rattle.pt_modal_laws.specs.State.{Asked, Closed, in_stage}
use Rattle.pt_modal_laws.specs.ModalActs.{State}
use Rattle.pt_modal.proofs.modal.Core.ask.Goals as goal

pub returns-in-Due-clause-state : goal.returns-in-Due-clause-state
returns-in-Due-clause-state c = ap (λ (s : State Machine). in_stage (Asked c.in-Due.refinement) s) c.self.view_is

pub returns-in-Over-clause-state : goal.returns-in-Over-clause-state
returns-in-Over-clause-state c = ap (λ (s : State Machine). in_stage Closed s) c.self.view_is

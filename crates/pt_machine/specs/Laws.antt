-- Laws of the machines of Modal entities.
use Rattle.std.specs.Prelude.{◌≡◌, ℕ, ◌<◌, List, length, Bool, Some, slice_get}
use Rattle.pt_meaning.specs.Modal.{Chart}
use Rattle.pt_value.specs.declared.token.Token.{Token}
use Rattle.pt_document.specs.declared.job.Direction.TheVariants.{Input, Output}
use Rattle.pt_net.specs.Net.{NetEntityTree}
use Rattle.pt_scopes.specs.Valued.{EntityView}
use Rattle.pt_typing.specs.Least.{Assignment}
use Rattle.pt_inequalities.specs.ModalScopes.{ModalScope}
use Rattle.pt_chart.specs.Machine.{Machine}
use Rattle.pt_chart.specs.Chart.{chart_of}
use Rattle.pt_machine.specs.declared.cause.Cause.{Cause}
use Rattle.pt_machine.specs.Names.{names_along}
use Rattle.pt_machine.specs.Causes.{IsAtFault}
use Rattle.pt_machine.specs.Machines.{IsMachine}

-- a Modal entity with a machine is at no fault
abbrev pub MachinesAreClean : Type 0
MachinesAreClean =
    (typing : Assignment) (s : ModalScope) (m : ℕ) (e : NetEntityTree) (v : EntityView) (kids : List NetEntityTree) (parted : Bool) (x : Machine) → IsMachine typing s m e v kids parted x → (why : Cause) → IsAtFault e kids parted why → ⊥

-- What a core asks of a chart round these refinements: it begins in a state that is there, and a refinement that a state names is one of them. Each takes a token for each of its inputs, and shows one list for each own output.
pub record Suits (e : NetEntityTree) (kids : List NetEntityTree) (chart : Chart Token) (modes : ℕ) : Type 0 where
  pub begins : chart.initial < modes
  pub named : (mode i : ℕ) → chart.refinement mode ≡ Some i → i < length kids
  pub takes : (i : ℕ) (kid : NetEntityTree) → slice_get kids i ≡ Some kid → length (chart.in_ports i) ≡ length (names_along Input kid.ports)
  pub shows : (i : ℕ) (kid : NetEntityTree) → slice_get kids i ≡ Some kid → length (chart.out_ports i) ≡ length (names_along Output e.ports)

-- a machine suits the refinements of its Modal entity
abbrev pub MachinesSuit : Type 0
MachinesSuit =
    (typing : Assignment) (s : ModalScope) (m : ℕ) (e : NetEntityTree) (v : EntityView) (kids : List NetEntityTree) (parted : Bool) (x : Machine) → IsMachine typing s m e v kids parted x → Suits e kids (chart_of x) (length x.modes)

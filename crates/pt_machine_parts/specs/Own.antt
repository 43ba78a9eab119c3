-- A Modal entity with what stands in it, and the numbers of what it names.
use Rattle.std.specs.Prelude.{◌≡◌, List, map}
use Rattle.pt_document.specs.declared.job.Direction.TheVariants.{Input, Output}
use Rattle.pt_net.specs.Net.{NetEntityTree, entity_view}
use Rattle.pt_machine.specs.declared.cause.Cause.{Cause}
use Rattle.pt_machine.specs.Names.{state_names, names_along, variable_names, path_of}
use Rattle.pt_machine.specs.Causes.{IsAtFault}
use Rattle.pt_machine_parts.specs.declared.modal.OwnPorts.{OwnPorts}
use Rattle.pt_machine_parts.specs.declared.modal.Own.{Own}
use Rattle.pt_machine_parts.specs.declared.modal.ModalEntity.{ModalEntity}
use Rattle.pt_machine_parts.specs.Texts.{texts}
use Rattle.pt_machine_parts.specs.Views.{kids_view}
use Rattle.pt_machine_parts.specs.Numbered.{AreNumbersOf}

-- the ports of an entity, by direction
pub record AreOwnPorts (e : NetEntityTree) (p : OwnPorts) : Type 0 where
  pub inputs : AreNumbersOf (names_along Input e.ports) p.inputs
  pub outputs : AreNumbersOf (names_along Output e.ports) p.outputs
  pub named : texts p.output_names.items ≡ names_along Output e.ports

-- what an entity names in which these stand
pub record IsOwn (e : NetEntityTree) (kids : List NetEntityTree) (own : Own) : Type 0 where
  pub ports : AreOwnPorts e own.ports
  pub states : AreNumbersOf (state_names e) own.states
  pub variables : AreNumbersOf (variable_names e) own.variables
  pub children : AreNumbersOf (map path_of kids) own.children

abbrev pub entity_of : ModalEntity → NetEntityTree
entity_of m = entity_view m.entity.now

abbrev pub kids_of : ModalEntity → List NetEntityTree
kids_of m = kids_view m.children.items

-- its names have their numbers
abbrev pub IsNumbered : ModalEntity → Type 0
IsNumbered m = IsOwn (entity_of m) (kids_of m) m.own

-- it is at fault for this cause
abbrev pub IsFaultOf : ModalEntity → Cause → Type 0
IsFaultOf m why = IsAtFault (entity_of m) (kids_of m) m.is_parted why

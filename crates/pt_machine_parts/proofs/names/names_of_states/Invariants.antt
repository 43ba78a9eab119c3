use Rattle.std.proofs.Common.{◌≡◌, map, take}
use Rattle.pt_machine.specs.Names.{state_name}
use Rattle.pt_machine_parts.specs.Texts.{texts}
use Rattle.pt_machine_parts.proofs.names.names_of_states.Given as goal

abbrev pub invariant-loop-state : goal.invariant-loop-state
invariant-loop-state l = texts l.found.items ≡ map state_name (take l.state-index l.states)

use Rattle.std.proofs.Common.{◌≡◌, map, take}
use Rattle.std.specs.List.{All}
use Rattle.pt_machine.specs.Names.{refinement_of}
use Rattle.pt_machine.specs.Machines.{IsRefined}
use Rattle.pt_machine_parts.specs.Own.{entity_of, kids_of}
use Rattle.pt_machine_parts.proofs.modes.refinements_of.Given as goal

abbrev pub invariant-loop-state : goal.invariant-loop-state
invariant-loop-state l = record {
  numbers : l.found.items ≡ map (refinement_of (entity_of l.modal) (kids_of l.modal)) (take l.state-index l.states);
  named : All (IsRefined (entity_of l.modal) (kids_of l.modal)) (take l.state-index l.states);
}

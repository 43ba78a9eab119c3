use Rattle.std.proofs.Common.{◌≡◌, map, take}
use Rattle.pt_net.specs.Net.{entity_view}
use Rattle.pt_inequalities.specs.Modals.{modal_ports}
use Rattle.pt_frames.specs.Views.{port_numbers}
use Rattle.pt_places.proofs.refinements.port_tables.Given as goal

abbrev pub invariant-loop-entity : goal.invariant-loop-entity
invariant-loop-entity l = map port_numbers l.tables.items ≡ map modal_ports (map entity_view (take l.entity-index l.entities))

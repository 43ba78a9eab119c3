use Rattle.std.proofs.Common.{◌≡◌, ◌++◌, map, take}
use Rattle.pt_net.specs.Net.{entity_view}
use Rattle.pt_places.specs.Views.{port_lists}
use Rattle.pt_places.proofs.joints.add_entity_ports.Given as goal

abbrev pub invariant-loop-entity : goal.invariant-loop-entity
invariant-loop-entity l = port_lists l.lists.items ≡ port_lists l.fn.lists.items ++ map (λ e. e.ports) (map entity_view (take l.entity-index l.entities))

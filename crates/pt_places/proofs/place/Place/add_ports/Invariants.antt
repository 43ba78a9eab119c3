use Rattle.std.proofs.Common.{◌≡◌, ◌++◌, map, drop}
use Rattle.pt_typing.specs.Views.{inequality_view}
use Rattle.pt_places.specs.Views.{types_at}
use Rattle.pt_net.specs.Net.{entity_view}
use Rattle.pt_scopes.specs.Valued as valued
use Rattle.pt_document.specs.View.{port_view}
use Rattle.pt_inequalities.specs.Inequalities.{of_ports}
use Rattle.pt_places.proofs.place.Place.add_ports.Given as goal

abbrev pub invariant-loop-index : goal.invariant-loop-index
invariant-loop-index l = map inequality_view l.inequalities.items ++ of_ports l.self.number (entity_view l.self.entity.now) (valued.entity_view l.self.values.now) (types_at l.self) l.index (map port_view (drop l.index l.port-items)) ≡ map inequality_view l.fn.inequalities.items ++ of_ports l.self.number (entity_view l.self.entity.now) (valued.entity_view l.self.values.now) (types_at l.self) 0 (map port_view l.self.entity.now.ports.items)

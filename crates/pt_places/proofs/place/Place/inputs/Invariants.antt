use Rattle.std.proofs.Common.{◌≡◌, ◌++◌, map, drop}
use Rattle.pt_document.specs.View.{port_view}
use Rattle.pt_net.specs.Net.{entity_view}
use Rattle.pt_inequalities.specs.Inequalities.{inputs_from, inputs_of}
use Rattle.pt_places.proofs.place.Place.inputs.Given as goal

abbrev pub invariant-loop-index : goal.invariant-loop-index
invariant-loop-index l = l.inputs.items ++ inputs_from l.self.number l.index (map port_view (drop l.index l.port-items)) ≡ inputs_of l.self.number (entity_view l.self.entity.now)

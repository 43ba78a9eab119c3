use Rattle.std.proofs.Common.{◌≡◌, ◌++◌, map, take}
use Rattle.pt_net.specs.Net.{transparent_view}
use Rattle.pt_places.specs.Views.{port_lists}
use Rattle.pt_places.proofs.joints.add_composite_ports.Given as goal

abbrev pub invariant-loop-composite : goal.invariant-loop-composite
invariant-loop-composite l = port_lists l.lists.items ≡ port_lists l.fn.lists.items ++ map (λ c. c.ports) (map transparent_view (take l.composite-index l.composites))

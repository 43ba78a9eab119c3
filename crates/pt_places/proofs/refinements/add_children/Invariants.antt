use Rattle.std.proofs.Common.{◌≡◌, ◌++◌, map, drop}
use Rattle.pt_typing.specs.Views.{inequality_view}
use Rattle.pt_net.specs.Net.{entity_view}
use Rattle.pt_inequalities.specs.Modals.{of_children}
use Rattle.pt_frames.specs.Views.{port_numbers}
use Rattle.pt_places.proofs.refinements.add_children.Given as goal

abbrev pub invariant-loop-number : goal.invariant-loop-number
invariant-loop-number l = map inequality_view l.inequalities.items ++ of_children (map port_numbers l.tables) l.number (map entity_view (drop l.number l.entities)) ≡ map inequality_view l.fn.inequalities.items ++ of_children (map port_numbers l.tables) 0 (map entity_view l.entities)

use Rattle.std.proofs.Common.{◌≡◌, ◌++◌, map, drop}
use Rattle.pt_typing.specs.Views.{inequality_view}
use Rattle.pt_document.specs.View.{port_view}
use Rattle.pt_inequalities.specs.Modals.{of_refinement}
use Rattle.pt_frames.specs.Views.{port_numbers}
use Rattle.pt_places.proofs.refinements.add_refinement.Given as goal

abbrev pub invariant-loop-index : goal.invariant-loop-index
invariant-loop-index l = map inequality_view l.inequalities.items ++ of_refinement (port_numbers l.table) l.modal l.fn.entity l.index (map port_view (drop l.index l.ports)) ≡ map inequality_view l.fn.inequalities.items ++ of_refinement (port_numbers l.table) l.modal l.fn.entity 0 (map port_view l.ports)

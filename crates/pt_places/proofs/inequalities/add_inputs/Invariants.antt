use Rattle.std.proofs.Common.{◌≡◌, ◌++◌, map, drop}
use Rattle.pt_typing.specs.Views.{inequality_view}
use Rattle.pt_document.specs.View.{input_view}
use Rattle.pt_frames.specs.Views.{port_numbers}
use Rattle.pt_inequalities.specs.Inequalities.{of_inputs, supply_view}
use Rattle.pt_places.proofs.inequalities.add_inputs.Given as goal

abbrev pub invariant-loop-index : goal.invariant-loop-index
invariant-loop-index l = map inequality_view l.inequalities.items ++ of_inputs (port_numbers l.ports) (map input_view (drop l.index l.inputs)) (map supply_view (drop l.index l.supplies)) ≡ map inequality_view l.fn.inequalities.items ++ of_inputs (port_numbers l.ports) (map input_view l.inputs) (map supply_view l.supplies)

use Rattle.std.proofs.Common.{◌≡◌, take, map}
use Rattle.pt_chart.specs.Views.{ports_view}
use Rattle.pt_trees.specs.Modal.{taken_by}
use Rattle.pt_modal_composite.proofs.modal.places_of.Given as goal

abbrev pub invariant-loop-refinement : goal.invariant-loop-refinement
invariant-loop-refinement l = l.places.items ≡ map (λ p. taken_by (ports_view p)) (take l.refinement-index l.ports)

use Rattle.std.proofs.Common.{◌≡◌, map, drop}
use Rattle.std.specs.List.{list_any}
use Rattle.pt_net.specs.Net.{entity_view}
use Rattle.pt_scopes.specs.Given.{held_view}
use Rattle.pt_typing.specs.Least.{assignment}
use Rattle.pt_places.specs.Views.{types_at}
use Rattle.pt_resolve.specs.Broken.{lacks_type}
use Rattle.pt_resolve.proofs.faults.has_untyped.Given as goal

abbrev pub invariant-loop-value : goal.invariant-loop-value
invariant-loop-value l =
    let lacks = lacks_type (assignment l.typing) l.place.number (entity_view l.place.entity.now) (types_at l.place) in
    list_any lacks (map held_view l.place.values.now.parameters.items) ≡ list_any lacks (map held_view (drop l.value-index l.value-items))

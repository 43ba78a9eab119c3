use Rattle.std.proofs.Common.{◌≡◌, drop}
use Rattle.std.specs.List.{find}
use Rattle.pt_document.specs.View.{properties_view}
use Rattle.pt_net.specs.Standing.{is_director}
use Rattle.pt_copies.proofs.entities.director.Given as goal

abbrev pub invariant-loop-property : goal.invariant-loop-property
invariant-loop-property l = find is_director (properties_view (drop l.property-index l.properties)) ≡ find is_director (properties_view l.properties)

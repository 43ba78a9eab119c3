use Rattle.std.proofs.Common.{◌≡◌, take}
use Rattle.std.specs.List.{filter}
use Rattle.pt_document.specs.View.{properties_view}
use Rattle.pt_net.specs.Net.{is_parameter}
use Rattle.pt_copies.proofs.copies.parameters.Given as goal

abbrev pub invariant-loop-item : goal.invariant-loop-item
invariant-loop-item l = properties_view l.new.items ≡ filter is_parameter (properties_view (take l.item-index l.old))

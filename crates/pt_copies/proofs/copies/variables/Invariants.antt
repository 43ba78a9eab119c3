use Rattle.std.proofs.Common.{◌≡◌, take}
use Rattle.std.specs.List.{filter}
use Rattle.pt_document.specs.View.{properties_view}
use Rattle.pt_net.specs.Net.{is_variable}
use Rattle.pt_copies.proofs.copies.variables.Given as goal

abbrev pub invariant-loop-item : goal.invariant-loop-item
invariant-loop-item l = properties_view l.new.items ≡ filter is_variable (properties_view (take l.item-index l.old))

use Rattle.std.proofs.Common.{◌≡◌, ◌++◌, map, take}
use Rattle.pt_document.specs.View.{port_view}
use Rattle.pt_copies.proofs.entities.add_declared.Given as goal

abbrev pub invariant-loop-item : goal.invariant-loop-item
invariant-loop-item l = map port_view l.ports.items ≡ map port_view l.initial.ports.items ++ map port_view (take l.item-index l.declared)

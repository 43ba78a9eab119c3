use Rattle.std.proofs.Common.{◌≡◌, ◌++◌, map, drop, filter_map}
use Rattle.std.specs.List.{enumerate_from}
use Rattle.pt_document.specs.View.{port_view}
use Rattle.pt_types.specs.Entry.{typed_entry}
use Rattle.pt_typing.specs.Least.{assignment}
use Rattle.pt_machine.specs.Typed.{typed_if, typed_along}
use Rattle.pt_machine_parts.proofs.typed.typed_along.Given as goal

abbrev pub invariant-loop-number : goal.invariant-loop-number
invariant-loop-number l = map typed_entry l.list.items ++ filter_map (typed_if l.direction (assignment l.typing) l.entity) (enumerate_from l.number (map port_view (drop l.number l.ports))) ≡ typed_along l.direction (assignment l.typing) l.entity (map port_view l.ports)

use Rattle.std.proofs.Common.{◌≡◌, map, drop}
use Rattle.pt_document.specs.View.{port_view}
use Rattle.pt_typing.specs.Least.{assignment}
use Rattle.pt_resolve.specs.Broken.{has_port_above}
use Rattle.pt_resolve.proofs.faults.has_port_above.Given as goal

abbrev pub invariant-loop-index : goal.invariant-loop-index
invariant-loop-index l = has_port_above (assignment l.typing) l.fn.number l.class 0 (map port_view l.ports) ≡ has_port_above (assignment l.typing) l.fn.number l.class l.index (map port_view (drop l.index l.ports))

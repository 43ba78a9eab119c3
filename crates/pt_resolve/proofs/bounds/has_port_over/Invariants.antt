use Rattle.std.proofs.Common.{◌≡◌, map, drop}
use Rattle.pt_document.specs.View.{port_view}
use Rattle.pt_typing.specs.Least.{assignment}
use Rattle.pt_resolve.specs.Broken.{has_port_over}
use Rattle.pt_resolve.proofs.bounds.has_port_over.Given as goal

abbrev pub invariant-loop-index : goal.invariant-loop-index
invariant-loop-index l = has_port_over (assignment l.typing) l.fn.number 0 (map port_view l.ports) ≡ has_port_over (assignment l.typing) l.fn.number l.index (map port_view (drop l.index l.ports))

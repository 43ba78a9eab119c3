use Rattle.std.proofs.Common.{◌≡◌, map, drop}
use Rattle.pt_document.specs.View.{port_view}
use Rattle.pt_typing.specs.Least.{assignment}
use Rattle.pt_resolve.specs.Broken.{has_general}
use Rattle.pt_resolve.proofs.composites.has_general.Given as goal

abbrev pub invariant-loop-index : goal.invariant-loop-index
invariant-loop-index l = has_general (assignment l.typing) l.fn.number 0 (map port_view l.ports) ≡ has_general (assignment l.typing) l.fn.number l.index (map port_view (drop l.index l.ports))

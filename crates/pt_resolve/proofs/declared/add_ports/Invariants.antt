use Rattle.std.proofs.Common.{◌≡◌, ◌++◌, map, drop}
use Rattle.pt_typing.specs.Views.{inequality_view}
use Rattle.pt_document.specs.View.{port_view}
use Rattle.pt_resolve.specs.DeclaredTypes.{of_declared}
use Rattle.pt_resolve.proofs.declared.add_ports.Given as goal

abbrev pub invariant-loop-index : goal.invariant-loop-index
invariant-loop-index l = map inequality_view l.inequalities.items ++ of_declared l.number l.index (map port_view (drop l.index l.ports)) ≡ map inequality_view l.fn.inequalities.items ++ of_declared l.number 0 (map port_view l.ports)

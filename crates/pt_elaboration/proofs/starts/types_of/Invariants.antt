use Rattle.std.proofs.Common.{◌≡◌, ◌++◌, drop, map}
use Rattle.std.specs.List.{enumerate_from}
use Rattle.pt_types.specs.Ty.{type_of}
use Rattle.pt_document.specs.View.{port_view}
use Rattle.pt_typing.specs.Least.{assignment}
use Rattle.pt_start.specs.Started.{type_at}
use Rattle.pt_elaboration.specs.Resolved.{port_typing}
use Rattle.pt_elaboration.proofs.starts.types_of.Given as goal

abbrev pub invariant-loop-port : goal.invariant-loop-port
invariant-loop-port l = map type_of l.types.items ++ map (type_at (port_typing (assignment l.typing)) l.number) (enumerate_from l.port (map port_view (drop l.port l.ports))) ≡ map (type_at (port_typing (assignment l.typing)) l.number) (enumerate_from 0 (map port_view l.ports))

use Rattle.std.proofs.Common.{◌≡◌, ◌++◌, map, take}
use Rattle.pt_document.specs.Classes.{port_of}
use Rattle.pt_document.specs.View.{port_view}
use Rattle.pt_net.specs.Table.{declared_port}
use Rattle.pt_survey.proofs.tables.add_declared.Given as goal

abbrev pub invariant-loop-port : goal.invariant-loop-port
invariant-loop-port l = map port_of l.ports.items ≡ map port_of l.initial.ports.items ++ map declared_port (map port_view (take l.port-index l.declared))

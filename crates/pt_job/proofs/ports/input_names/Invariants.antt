use Rattle.std.proofs.Common.{◌≡◌, map, take}
use Rattle.std.specs.List.{filter}
use Rattle.pt_document.specs.View.{port_view}
use Rattle.pt_scopes.specs.Sites.{port_name, is_input_port}
use Rattle.pt_job.specs.Names.{texts}
use Rattle.pt_job.proofs.ports.input_names.Given as goal

abbrev pub invariant-loop-port : goal.invariant-loop-port
invariant-loop-port l = texts l.names.items ≡ map port_name (filter is_input_port (map port_view (take l.port-index l.ports)))

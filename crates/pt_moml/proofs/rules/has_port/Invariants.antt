use Rattle.std.proofs.Common.{◌≡◌, map, drop}
use Rattle.pt_document.specs.Classes.{port_of}
use Rattle.pt_document.specs.Names.{is_among}
use Rattle.pt_moml.proofs.rules.has_port.Given as goal

abbrev pub invariant-loop-port : goal.invariant-loop-port
invariant-loop-port l = is_among (map (λ port. port.name) (map port_of (drop l.port-index l.ports))) l.name ≡ is_among (map (λ port. port.name) (map port_of l.ports)) l.name

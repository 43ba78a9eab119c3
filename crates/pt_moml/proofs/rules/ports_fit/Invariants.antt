use Rattle.std.proofs.Common.{◌≡◌, map, drop}
use Rattle.pt_moml.specs.Rules as rules
use Rattle.pt_document.specs.View.{port_view}
use Rattle.pt_document.specs.Classes.{parameter_of}
use Rattle.pt_moml.proofs.rules.ports_fit.Given as goal

abbrev pub invariant-loop-port : goal.invariant-loop-port
invariant-loop-port l = rules.each (rules.port_fits l.here (map parameter_of l.rows)) (map port_view (drop l.port-index l.ports)) ≡ rules.each (rules.port_fits l.here (map parameter_of l.rows)) (map port_view l.ports)

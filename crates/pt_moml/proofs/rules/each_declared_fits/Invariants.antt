use Rattle.std.proofs.Common.{◌≡◌, map, drop}
use Rattle.pt_moml.specs.Rules as rules
use Rattle.pt_document.specs.View.{port_view}
use Rattle.pt_document.specs.Classes.{class_of}
use Rattle.pt_moml.proofs.rules.each_declared_fits.Given as goal

abbrev pub invariant-loop-port : goal.invariant-loop-port
invariant-loop-port l = rules.each (rules.declared_fits l.here (class_of l.class)) (map port_view (drop l.port-index l.ports)) ≡ rules.each (rules.declared_fits l.here (class_of l.class)) (map port_view l.ports)

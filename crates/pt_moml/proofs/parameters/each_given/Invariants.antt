use Rattle.std.proofs.Common.{◌≡◌, map, drop}
use Rattle.pt_moml.specs.Rules as rules
use Rattle.pt_document.specs.View.{properties_view}
use Rattle.pt_document.specs.Classes.{parameter_of}
use Rattle.pt_moml.proofs.parameters.each_given.Given as goal

abbrev pub invariant-loop-row : goal.invariant-loop-row
invariant-loop-row l = rules.each (rules.parameter_given l.here (properties_view l.properties)) (map parameter_of (drop l.row-index l.rows)) ≡ rules.each (rules.parameter_given l.here (properties_view l.properties)) (map parameter_of l.rows)

use Rattle.std.proofs.Common.{◌≡◌, map, drop}
use Rattle.pt_moml.specs.Rules as rules
use Rattle.pt_document.specs.View.{properties_view}
use Rattle.pt_document.specs.Classes.{parameter_of}
use Rattle.pt_moml.proofs.parameters.each_fits.Given as goal

abbrev pub invariant-loop-property : goal.invariant-loop-property
invariant-loop-property l = rules.each (rules.parameter_fits l.here (map parameter_of l.rows)) (properties_view (drop l.property-index l.properties)) ≡ rules.each (rules.parameter_fits l.here (map parameter_of l.rows)) (properties_view l.properties)

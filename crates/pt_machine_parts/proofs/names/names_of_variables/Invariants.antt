use Rattle.std.proofs.Common.{◌≡◌, map, take}
use Rattle.pt_document.specs.Document.{property_name}
use Rattle.pt_document.specs.View.{properties_view}
use Rattle.pt_machine_parts.specs.Texts.{texts}
use Rattle.pt_machine_parts.proofs.names.names_of_variables.Given as goal

abbrev pub invariant-loop-variable : goal.invariant-loop-variable
invariant-loop-variable l = texts l.found.items ≡ map property_name (properties_view (take l.variable-index l.variables))

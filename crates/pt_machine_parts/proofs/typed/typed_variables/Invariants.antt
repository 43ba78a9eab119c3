use Rattle.std.proofs.Common.{◌≡◌, ◌++◌, map, drop, filter_map}
use Rattle.std.specs.List.{enumerate_from}
use Rattle.pt_value.specs.Token.{value_of}
use Rattle.pt_document.specs.View.{property_view, properties_view}
use Rattle.pt_types.specs.Entry.{typed_entry}
use Rattle.pt_machine.specs.Typed.{variable_if, typed_variables}
use Rattle.pt_machine_parts.proofs.typed.typed_variables.Given as goal

abbrev pub invariant-loop-number : goal.invariant-loop-number
invariant-loop-number l = map typed_entry l.list.items ++ filter_map (variable_if (map value_of l.values)) (enumerate_from l.number (map property_view (drop l.number l.variables))) ≡ typed_variables (map value_of l.values) (properties_view l.variables)

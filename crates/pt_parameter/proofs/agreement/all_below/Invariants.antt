use Rattle.std.proofs.Common.{◌≡◌, drop, map}
use Rattle.std.specs.List.{list_all}
use Rattle.pt_value.specs.Token.{value_of}
use Rattle.pt_scopes.specs.Agreement.{is_integer_below}
use Rattle.pt_parameter.proofs.agreement.all_below.Given as goal

abbrev pub invariant-loop-element : goal.invariant-loop-element
invariant-loop-element l = list_all (is_integer_below l.bound) (map value_of l.elements) ≡ list_all (is_integer_below l.bound) (map value_of (drop l.element-index l.elements))

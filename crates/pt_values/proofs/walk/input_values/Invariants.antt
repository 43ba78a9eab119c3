use Rattle.std.proofs.Common.{take, map}
use Rattle.std.specs.Prelude.{option_map}
use Rattle.std.specs.List.{AllZip}
use Rattle.pt_value.specs.Token.{value_of}
use Rattle.pt_document.specs.View.{input_view}
use Rattle.pt_scopes.specs.Valued.{IsInputValued}
use Rattle.pt_values.proofs.walk.input_values.Given as goal

abbrev pub invariant-loop-input : goal.invariant-loop-input
invariant-loop-input l = AllZip IsInputValued (map input_view (take l.input-index l.inputs)) (map (λ ts. map (option_map value_of) ts.items) l.values.items)

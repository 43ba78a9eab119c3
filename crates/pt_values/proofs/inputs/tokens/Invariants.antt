use Rattle.std.proofs.Common.{take, map}
use Rattle.std.specs.Prelude.{option_map}
use Rattle.std.specs.List.{AllZip}
use Rattle.pt_value.specs.Token.{value_of}
use Rattle.pt_scopes.specs.Valued.{IsSupplied}
use Rattle.pt_values.proofs.inputs.tokens.Given as goal

abbrev pub invariant-loop-text : goal.invariant-loop-text
invariant-loop-text l = AllZip IsSupplied (take l.text-index l.texts) (map (option_map value_of) l.tokens.items)

use Rattle.std.proofs.Common.{take, map}
use Rattle.std.specs.Prelude.{option_map}
use Rattle.std.specs.List.{AllZip}
use Rattle.pt_value.specs.Token.{value_of}
use Rattle.pt_scopes.specs.Sites.{event_text}
use Rattle.pt_scopes.specs.Valued.{IsSupplied}
use Rattle.pt_values.proofs.inputs.event_tokens.Given as goal

abbrev pub invariant-loop-event : goal.invariant-loop-event
invariant-loop-event l = AllZip IsSupplied (map event_text (take l.event-index l.events)) (map (option_map value_of) l.tokens.items)

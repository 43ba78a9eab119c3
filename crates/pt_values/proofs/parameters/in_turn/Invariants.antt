use Rattle.std.proofs.Common.{take, map}
use Rattle.pt_value.specs.Token.{value_of}
use Rattle.pt_document.specs.View.{properties_view}
use Rattle.pt_scopes.specs.Scopes.{Bindings}
use Rattle.pt_scopes.specs.Frames.{Means}
use Rattle.pt_scopes.specs.Told.{IsTurn}
use Rattle.pt_values.proofs.parameters.in_turn.Given as goal

abbrev pub invariant-loop-property : goal.invariant-loop-property
invariant-loop-property l =
    (around : Bindings) → Means l.frames l.chain around → IsTurn around (properties_view (take l.property-index l.properties)) l.frames l.chain l.own (map value_of l.tokens.items)

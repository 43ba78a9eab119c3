-- What the program tells of a reaction.
use Rattle.pt_value.specs.declared.token.Token.{Token}
use Rattle.pt_firing.specs.RunFault.{code_of}
use Rattle.pt_transitions.specs.declared.reaction.Reaction.{Reaction}
use Rattle.pt_transitions.specs.declared.reaction.Reaction.TheVariants.{Stays, Moves, Stops}
use Rattle.pt_chart.specs.Reacted as reacted
use Rattle.pt_chart.specs.Reacted.{Reacted}

abbrev pub reaction_view : Reaction → Reacted Token
reaction_view (Stays outputs) = reacted.Stays outputs.items
reaction_view (Moves m) = reacted.Moves m.target m.history m.outputs.items m.values.items
reaction_view (Stops kind) = reacted.Stops (code_of kind)

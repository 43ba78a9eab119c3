-- What the program tells of what comes first in a reaction.
use Rattle.pt_value.specs.declared.token.Token.{Token}
use Rattle.pt_transitions.specs.Moves.{reaction_view}
use Rattle.pt_modal.specs.declared.first.FirstStep as declared
use Rattle.pt_modal.specs.declared.first.FirstStep.TheVariants as code
use Rattle.pt_modal.specs.First.{FirstStep, Fires, Comes}

abbrev pub first_view : declared.FirstStep → FirstStep Token
first_view (code.Fires i lists) = Fires i lists.items
first_view (code.Comes reaction) = Comes (reaction_view reaction)

-- The stage of a core in code.
use Rattle.std.specs.Prelude.{◌≡◌}
use Rattle.pt_meaning.specs.Streams.{Streams}
use Rattle.pt_meaning.specs.Modal.{Chart, picked}
use Rattle.pt_value.specs.declared.token.Token.{Token}
use Rattle.pt_firing.specs.RunFault.{code_of}
use Rattle.pt_modal_laws.specs.State.{Stage, Idle, Due, Asked, Resets, Over, Closed, Failed}
use Rattle.pt_modal.specs.declared.stage.Stage as declared
use Rattle.pt_modal.specs.declared.stage.Stage.TheVariants as code

abbrev pub stage_of : declared.Stage → Stage
stage_of code.Idle = Idle
stage_of (code.Due i) = Due i
stage_of (code.Asked i) = Asked i
stage_of (code.Resets i) = Resets i
stage_of code.Over = Over
stage_of code.Closed = Closed
stage_of (code.Failed kind) = Failed (code_of kind)

-- What a refinement takes is at hand where it is to fire, or was asked to: the tokens of like-named inputs.
abbrev pub IsAtHand : declared.Stage → Chart Token → (inputs lent : Streams Token) → Type 0
IsAtHand code.Idle chart inputs lent = Unit {0}
IsAtHand (code.Due i) chart inputs lent = lent ≡ picked (chart.in_ports i) inputs
IsAtHand (code.Asked i) chart inputs lent = lent ≡ picked (chart.in_ports i) inputs
IsAtHand (code.Resets i) chart inputs lent = Unit {0}
IsAtHand code.Over chart inputs lent = Unit {0}
IsAtHand code.Closed chart inputs lent = Unit {0}
IsAtHand (code.Failed kind) chart inputs lent = Unit {0}

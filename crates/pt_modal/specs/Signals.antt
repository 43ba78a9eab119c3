-- A whole reaction in which no refinement is left, entered or fired, and the one own output has one integer at most.
use Rattle.std.specs.Prelude.{◌≡◌, ℤ, [], ◌∷◌, Option}
use Rattle.pt_meaning.specs.Tag.{Tag}
use Rattle.pt_meaning.specs.Streams.{Streams}
use Rattle.pt_meaning.specs.Modal.{Chart, Modes}
use Rattle.pt_value.specs.declared.token.Token.{Token}
use Rattle.pt_transitions.specs.Alone.{AloneTo, signal_of}
use Rattle.pt_modal_laws.specs.State.{Over, closed, begun}
use Rattle.pt_modal_laws.specs.ModalActs.{State}

-- The machine is in a state to which its guards and actions lead, with the values that they say, and the times of the refinements are as they were.
pub record PassesAlone (chart : Chart Token) (inputs : Streams Token) (given : Option ℤ) (before after : Modes Token) : Type 0 where
  pub alone : AloneTo chart before.mode before.values inputs (record { target = after.mode; given = given }) after.values
  pub stays : after.stays ≡ before.stays

module _ {M : Type 0} (reads : M → Chart Token) where
  -- A reaction that begins at a tag on these inputs is over at once. Its own output has this signal, and once that is handed out the core is as it is after.
  pub record IsSignalAt (given : Option ℤ) (inputs : Streams Token) (before after : State M) (tag : Tag) : Type 0 where
    pub over : (begun reads tag inputs before).stage ≡ Over
    pub outputs : (begun reads tag inputs before).outputs ≡ signal_of given ∷ []
    pub state : after ≡ closed (begun reads tag inputs before)

  -- it is so at whatever tag
  abbrev pub IsSignal : (given : Option ℤ) (inputs : Streams Token) (before after : State M) → Type 0
  IsSignal given inputs before after = (tag : Tag) → IsSignalAt given inputs before after tag

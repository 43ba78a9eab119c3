-- A reaction in place: in a state without refinement, of a machine that gives one integer at most, on its one output, and enters no refinement. Then no history and no time counts.
use Rattle.std.specs.Prelude.{◌≡◌, ℕ, ℤ, List, [], ◌∷◌, Bool, true, false, Option, Some, None, option_map, option_to_list}
use Rattle.pt_meaning.specs.Streams.{Streams}
use Rattle.pt_meaning.specs.Modal.{Chart, unfired_outputs}
use Rattle.pt_meaning.specs.Transitions.{Scope}
use Rattle.pt_value.specs.declared.token.Token.{Token}
use Rattle.pt_value.specs.declared.token.Token.TheVariants.{Int}
use Rattle.pt_transitions.specs.declared.signal.Signal.{Signal}
use Rattle.pt_chart.specs.Machine.{ModeTree}
use Rattle.pt_chart.specs.Machine.{mode_at}
use Rattle.pt_chart.specs.Reacted.{Reacted, Stays, Moves, Stops, reacted}

-- the tokens of a signal that is an integer, or absent
abbrev pub signal_of : Option ℤ → List Token
signal_of given = option_to_list (option_map Int given)

-- what comes of the preemptive guards and the others: where none of the first is enabled, what comes of the second
abbrev pub by_both : {T : Type 0} → Reacted T → Reacted T → Reacted T
by_both (Stays outputs) others = others
by_both (Moves target history outputs values) others = Moves target history outputs values
by_both (Stops code) others = Stops code

-- what comes of both kinds of guards of a state without refinement, where nothing is on the own outputs
abbrev pub reacted_alone : {T : Type 0} → Chart T → (mode : ℕ) → List T → Streams T → Reacted T
reacted_alone chart mode values inputs = by_both (reacted chart true mode values inputs (unfired_outputs chart)) (reacted chart false mode values inputs (unfired_outputs chart))

-- What comes of the guards is this signal, from these values of the Variables to those: the machine stays and nothing changes, or a transition leads to the target. There is no fault.
abbrev pub ComesTo : (mode : ℕ) → List Token → Reacted Token → Signal → List Token → Type 0
ComesTo mode values (Stays outputs) s values' = (outputs ≡ signal_of s.given ∷ []) × (values' ≡ values) × (s.target ≡ mode)
ComesTo mode values (Moves target history outputs after) s values' = (target ≡ s.target) × (outputs ≡ signal_of s.given ∷ []) × (after ≡ values')
ComesTo mode values (Stops code) s values' = ⊥

-- A reaction of a machine in a state, on these inputs, comes to this signal. Neither the state nor that to which it leads has a refinement.
pub record AloneTo (chart : Chart Token) (mode : ℕ) (values : List Token) (inputs : Streams Token) (s : Signal) (values' : List Token) : Type 0 where
  pub unrefined : chart.refinement mode ≡ None
  pub enters_none : chart.refinement s.target ≡ None
  pub comes : ComesTo mode values (reacted_alone chart mode values inputs) s values'

-- ---- by the transitions of one kind

-- what guards and actions read where nothing is on the one own output
abbrev pub reads_alone : List Token → Streams Token → Scope Token
reads_alone values inputs = record { values = values; inputs = inputs; given = [] ∷ [] }

-- what comes of them: none is enabled, and nothing changes; or one that leads to a state without refinement gives this signal
abbrev pub IsOf : List ModeTree → List Token → Reacted Token → Option Signal → List Token → Type 0
IsOf modes values r None values' = (r ≡ Stays ([] ∷ [])) × (values' ≡ values)
IsOf modes values r (Some s) values' = (history : Bool) × (r ≡ Moves s.target history (signal_of s.given ∷ []) values') × ((mode_at modes s.target).refinement ≡ None)

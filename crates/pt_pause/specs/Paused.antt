-- Where the firing of a composite has come to, once its director was asked until it asks for a firing or is at an end.
use Rattle.std.specs.Prelude.{◌≡◌, ◌⊎◌, ℕ, ◌<◌, List, Option, Some, None}
use Rattle.pt_meaning.specs.Basics.{Tag, Streams}
use Rattle.pt_value.specs.declared.token.Token.{Token}
use Rattle.pt_firing.specs.declared.ask.Ask.{Ask}
use Rattle.pt_firing.specs.declared.ask.Ask.TheVariants as ask
use Rattle.pt_directors.specs.Directors.{Director, director_calls}
use Rattle.pt_node.specs.Acts.{acts}
use Rattle.pt_node.specs.Shown.{Shown}
use Rattle.pt_turns.specs.Between.{At, Between, InTurn, Halts}
use Rattle.pt_turns.specs.OwnMeetings.{OwnMeetings}
use Rattle.pt_pause.specs.declared.pause.Pause.{Pause}
use Rattle.pt_pause.specs.declared.pause.Pause.TheVariants as pause

-- where it has come to from there, without a firing that the director isn't told of but the last
abbrev pub Paused : Director → List Shown → Tag → Streams Token → (allowance : ℕ) → OwnMeetings → Pause → Director → List Shown → (left : ℕ) → Type 0
Paused before olds tag X allowance own (pause.Turn i when given) s now left = InTurn acts before olds tag X allowance own i when given s now left
Paused before olds tag X allowance own pause.Finished s now left = Between acts before olds tag X allowance own ask.Finished s now left
Paused before olds tag X allowance own (pause.Faulted kind) s now left = Between acts before olds tag X allowance own (ask.Faulted kind None) s now left
Paused before olds tag X allowance own pause.Spent s now left = (left ≡ 0) × (At acts before olds tag X allowance own s now left ⊎ ((next : Ask) × Between acts before olds tag X allowance own next s now left))
Paused before olds tag X allowance own pause.Full s now left = Between acts before olds tag X allowance own ask.Full s now left
Paused before olds tag X allowance own pause.Memory s now left = Halts acts before olds tag X allowance own s now left

-- the director asked for something in this state, which was done, and it has less to wait for; or it has come there
abbrev pub Heeded : Director → List Shown → Tag → Streams Token → (allowance : ℕ) → OwnMeetings → (state : Director) → Option Pause → Director → List Shown → (left : ℕ) → Type 0
Heeded before olds tag X allowance own state None s now left = At acts before olds tag X allowance own s now left × (director_calls.waits s < director_calls.waits state)
Heeded before olds tag X allowance own state (Some pause) s now left = Paused before olds tag X allowance own pause s now left

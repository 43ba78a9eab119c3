-- Signals of synchronous models: at each tick one is absent or has a token, or it isn't known yet (the book, "Synchronous-Reactive Models").
use Rattle.std.specs.Prelude.{ℕ, List, [], ◌∷◌, Option, Some, None}
use Rattle.pt_meaning.specs.Machine.{Partial, Unknown, Known, partial_at}
use Rattle.pt_meaning.specs.Node.{Answer, Gives}
use Rattle.pt_value.specs.declared.token.Token.{Token}
use Rattle.pt_firing.specs.Row.{first_in}
use Rattle.pt_firing.specs.TriState.{tokens_known}

-- the tokens of a signal: none where it is absent
abbrev pub tokens_of : {T : Type 0} → Option T → List T
tokens_of None = []
tokens_of (Some token) = token ∷ []

-- a firing of an actor with one output that has this signal
abbrev pub shows : {A : Type 0} → A → Option Token → Answer Token A
shows after signal = Gives after (tokens_of signal ∷ [])

-- the one output is known to have this signal
abbrev pub told : {T : Type 0} → Option T → List (Partial T)
told signal = Known (tokens_of signal) ∷ []

-- the token that is known on a place, if one is: of several, which no synchronous model has there, the first
abbrev pub known_token : {T : Type 0} → List (Partial T) → ℕ → Option T
known_token vs place = first_in (tokens_known (partial_at vs place))

-- what is known of the signal there
abbrev pub signal_known : {T : Type 0} → Partial T → Partial T
signal_known Unknown = Unknown
signal_known (Known tokens) = Known (tokens_of (first_in tokens))

abbrev pub known_signal : {T : Type 0} → List (Partial T) → ℕ → Partial T
known_signal vs place = signal_known (partial_at vs place)

-- what is known of the one output: what is decided, and where nothing is, what a strict actor lets know
abbrev pub decided_or : {T : Type 0} → Partial T → List (Partial T) → List (Partial T)
decided_or (Known tokens) later = Known tokens ∷ []
decided_or Unknown later = later

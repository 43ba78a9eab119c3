-- What the rows of timed actors have in common: events at a moment, and signals that may be absent.
use Rattle.std.specs.Prelude.{◌≡◌, ℕ, Bool, true, false, List, [], ◌∷◌, Option, Some, None, option_map, option_to_list, ℤ, negsuc, pos}
use Rattle.pt_meaning.specs.Basics.{Streams}
use Rattle.pt_meaning.specs.Tag.{Tag}
use Rattle.pt_meaning.specs.Machine.{Partial, Known}
use Rattle.pt_meaning.specs.Node.{Answer, Gives}
use Rattle.pt_value.specs.declared.token.Token.{Token}
use Rattle.pt_value.specs.declared.token.Token.TheVariants.{Int}
use Rattle.pt_firing.specs.Params.{int_within}

-- a firing of an actor with one output that has this signal
abbrev pub shows : {A : Type 0} → A → Option Token → Answer Token A
shows after signal = Gives after (option_to_list signal ∷ [])

-- the signal, where that is so, and else it is absent
abbrev pub where_so : Bool → Option Token → Option Token
where_so true signal = signal
where_so false signal = None

-- the beginning of a time: its microstep 0
abbrev pub beginning : ℕ → Tag
beginning time = record { time = time; step = 0 }

-- the greatest time, 2^62 ticks, as a parameter
abbrev pub last_time : ℤ
last_time = pos 4611686018427387904

-- a time from 0 to 2^62 that has to be given: where there is none, -1 stands for it, which is outside
abbrev pub time_given : List ℕ → List (List ℕ × Token) → Option ℤ
time_given name values = int_within name (negsuc 0) (pos 0) last_time values

-- the tokens of a signal that is an integer, or absent
abbrev pub signal_of : Option ℤ → List Token
signal_of given = option_to_list (option_map Int given)

-- The firing that the row answers was made, and gave one integer at most, on the one port. Where that isn't told none was made.
abbrev pub Signals : {A : Type 0} → Answer Token A → A → Option (Option ℤ) → A → Type 0
Signals answer old (Some given) new = answer ≡ Gives new (signal_of given ∷ [])
Signals answer old None new = new ≡ old

-- A firing at that tag was made, and gave one integer at most, on the one port. Where that isn't told none was made.
abbrev pub GivesSignal : {A : Type 0} → (Tag → A → Streams Token → Answer Token A) → A → Tag → Streams Token → Option (Option ℤ) → A → Type 0
GivesSignal step old tag X given new = Signals (step tag old X) old given new

-- Whatever is known of its inputs, it gives early just that: one integer at most, on the one port. Where that isn't told nothing is said.
abbrev pub TellsSignal : {A : Type 0} → (Tag → A → List (Partial Token) → List (Partial Token)) → A → Tag → Option (Option ℤ) → Type 0
TellsSignal early actor tag (Some given) = (vs : List (Partial Token)) → early tag actor vs ≡ Known (signal_of given) ∷ []
TellsSignal early actor tag None = Unit {0}

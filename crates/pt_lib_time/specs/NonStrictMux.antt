-- NonStrictMux: what the channel has that its select names.
use Rattle.std.specs.Prelude.{ℕ, nat_lt, ◌+◌, ℤ, pos, negsuc, List, [], Option, Some, None, codes, if◌then◌else◌}
use Rattle.pt_meaning.specs.Basics.{Tag, Streams}
use Rattle.pt_meaning.specs.Machine.{Need, Partial, Unknown, Known, partial_at}
use Rattle.pt_meaning.specs.Valuation.{is_known}
use Rattle.pt_meaning.specs.Node.{Answer, Fails}
use Rattle.pt_value.specs.declared.token.Token.{Token}
use Rattle.pt_firing.specs.RunFault.{code_of}
use Rattle.pt_firing.specs.declared.fault.RunFault.TheVariants.{Index}
use Rattle.pt_firing.specs.Params.{channels_to}
use Rattle.pt_firing.specs.Row.{one_each, token_at, number_of, number_at, on_present}
use Rattle.pt_firing.specs.Strict.{strict}
use Rattle.pt_flow_base.specs.declared.params.Params.{Params}
use Rattle.pt_lib_time.specs.declared.non_strict_mux.NonStrictMux.{NonStrictMux}
use Rattle.pt_lib_time.specs.Signal.{shows, known_token, known_signal, decided_or}

abbrev pub need : NonStrictMux → Need
need actor = one_each actor.places

-- Its places are that of select and behind it those of the channels, which are counted from 0: the place of the channel of a number, if there is such a channel.
abbrev pub place_of : ℕ → ℤ → Option ℕ
place_of places (pos n) = if nat_lt (n + 1) places then Some (n + 1) else None
place_of places (negsuc n) = None

-- what the channel has on that place, stuck where there is none
abbrev pub on_channel : NonStrictMux → Streams Token → Option ℕ → Answer Token NonStrictMux
on_channel actor X (Some place) = shows actor (token_at X place)
on_channel actor X None = Fails (code_of Index)

-- absent where select is
abbrev pub step : Tag → NonStrictMux → Streams Token → Answer Token NonStrictMux
step tag actor X = on_present actor (λ number. on_channel actor X (place_of actor.places number)) (number_at X 0)

-- what is known of that channel, and nothing where there is none
abbrev pub of_channel : List (Partial Token) → Option ℕ → Partial Token
of_channel vs (Some place) = known_signal vs place
of_channel vs None = Unknown

-- an absent select decides by itself
abbrev pub of_number : ℕ → List (Partial Token) → Option ℤ → Partial Token
of_number places vs (Some number) = of_channel vs (place_of places number)
of_number places vs None = Known []

-- select and the channel that it names decide
abbrev pub decided : NonStrictMux → List (Partial Token) → Partial Token
decided actor vs = if is_known (partial_at vs 0) then of_number actor.places vs (number_of (known_token vs 0)) else Unknown

-- else all have to be known
abbrev pub early : Tag → NonStrictMux → List (Partial Token) → List (Partial Token)
early tag actor vs = decided_or (decided actor vs) (strict 1 step tag actor vs)

abbrev pub start : Params → Option NonStrictMux
start params = Some (record { places = channels_to (codes "input") params.ports + 1 })

-- TimeDelay: gives each token of its input after a delay.
use Rattle.std.specs.Prelude.{List, [], ◌∷◌, false, Option, Some, None, ℤ, unsigned_abs, codes}
use Rattle.pt_meaning.specs.Basics.{Tag, Streams, at}
use Rattle.pt_meaning.specs.Machine.{Need, Partial, Known}
use Rattle.pt_meaning.specs.Node.{Answer}
use Rattle.pt_value.specs.declared.token.Token.{Token}
use Rattle.pt_firing.specs.Row.{one_each}
use Rattle.pt_flow_base.specs.declared.params.Params.{Params}
use Rattle.pt_lib_timed.specs.declared.time_delay.TimeDelay.{TimeDelay}
use Rattle.pt_lib_timed.specs.Signal.{time_given}
use Rattle.pt_lib_timed.specs.Pending.{Event, due, wake, arriving, given_then, held_in}

abbrev pub need : TimeDelay → Need
need actor = one_each actor.places

abbrev pub next : TimeDelay → Option Tag
next actor = wake actor.pending

abbrev pub holding : TimeDelay → List Event → TimeDelay
holding actor pending = record actor { pending = pending }

-- it gives all that is due, and each token of its input is due a delay after this tag
abbrev pub step : Tag → TimeDelay → Streams Token → Answer Token TimeDelay
step tag actor X = held_in (holding actor) (given_then tag actor.pending (arriving false tag actor.delay (at X 0)))

-- what it gives is known at once
abbrev pub early : Tag → TimeDelay → List (Partial Token) → List (Partial Token)
early tag actor vs = Known (due tag actor.pending) ∷ []

abbrev pub start_by : Option ℤ → Option TimeDelay
start_by None = None
start_by (Some delay) = Some (record { delay = unsigned_abs delay; pending = []; places = 1 })

abbrev pub start : Params → Option TimeDelay
start params = start_by (time_given (codes "delay") params.values)

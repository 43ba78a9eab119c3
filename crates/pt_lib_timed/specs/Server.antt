-- Server: gives each token of its input after it was served, one after the other.
use Rattle.std.specs.Prelude.{List, [], ◌∷◌, true, Option, Some, None, ℤ, unsigned_abs, codes}
use Rattle.pt_meaning.specs.Basics.{Tag, Streams, at}
use Rattle.pt_meaning.specs.Machine.{Need, Partial, Known}
use Rattle.pt_meaning.specs.Node.{Answer}
use Rattle.pt_value.specs.declared.token.Token.{Token}
use Rattle.pt_firing.specs.Row.{one_each}
use Rattle.pt_flow_base.specs.declared.params.Params.{Params}
use Rattle.pt_lib_timed.specs.declared.server.Server.{Server}
use Rattle.pt_lib_timed.specs.Signal.{time_given}
use Rattle.pt_lib_timed.specs.Pending.{Event, due, wake, last_tag, later_of, arriving, given_then, held_in}

abbrev pub need : Server → Need
need actor = one_each actor.places

abbrev pub next : Server → Option Tag
next actor = wake actor.pending

abbrev pub holding : Server → List Event → Server
holding actor pending = record actor { pending = pending }

-- It gives all that is due. Each token of its input is served in turn, from this tag on or from the last pending one where that is later; one that is given now ends by this tag.
abbrev pub step : Tag → Server → Streams Token → Answer Token Server
step tag actor X = held_in (holding actor) (given_then tag actor.pending (arriving true (later_of tag (last_tag actor.pending)) actor.service (at X 0)))

-- what it gives is known at once
abbrev pub early : Tag → Server → List (Partial Token) → List (Partial Token)
early tag actor vs = Known (due tag actor.pending) ∷ []

abbrev pub start_by : Option ℤ → Option Server
start_by None = None
start_by (Some service) = Some (record { service = unsigned_abs service; pending = []; places = 1 })

abbrev pub start : Params → Option Server
start params = start_by (time_given (codes "serviceTime") params.values)

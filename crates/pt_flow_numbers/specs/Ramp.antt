-- Ramp: a source of numbers, each a step more than the one before.
use Rattle.std.specs.Prelude.{ℤ, ◌+ℤ◌, ℕ, Option, Some, None, codes, pos}
use Rattle.pt_meaning.specs.Basics.{Tag, Streams}
use Rattle.pt_meaning.specs.Machine.{Need}
use Rattle.pt_meaning.specs.Node.{Answer}
use Rattle.pt_value.specs.declared.token.Token.{Token}
use Rattle.pt_flow_numbers.specs.declared.ramp.Ramp.{Ramp}
use Rattle.pt_flow_base.specs.declared.params.Params.{Params}
use Rattle.pt_firing.specs.Params.{int_or, channels_to}
use Rattle.pt_flow_base.specs.declared.limit.Limit.{Limit}
use Rattle.pt_flow_base.specs.Row.{exactly}
use Rattle.pt_flow_base.specs.Limit.{limit_in, is_over, after_one, source, source_need}

abbrev pub need : Ramp → Need
need actor = source_need (is_over actor.limit) actor.places

-- the ramp after a firing
abbrev pub fired : Ramp → Ramp
fired actor = record actor { next = actor.next +ℤ actor.step; limit = after_one actor.limit }

abbrev pub step : Tag → Ramp → Streams Token → Answer Token Ramp
step tag actor X = source (is_over actor.limit) X actor (exactly (fired actor) actor.next)

-- by its parameters init, else 0, and step, else 1
abbrev pub start_by : Option ℤ → Option ℤ → Option Limit → ℕ → Option Ramp
start_by (Some init) (Some step) (Some limit) triggers = Some (record { next = init; step = step; limit = limit; places = triggers })
start_by (Some init) (Some step) None triggers = None
start_by (Some init) None limit triggers = None
start_by None step limit triggers = None

abbrev pub start : Params → Option Ramp
start params = start_by (int_or (codes "init") (pos 0) params.values) (int_or (codes "step") (pos 1) params.values) (limit_in params.values) (channels_to (codes "trigger") params.ports)

-- Counter: counts up by what is present at increment, and down by what is present at decrement. The increment, if there is one, stands before the decrement.
use Rattle.std.specs.Prelude.{ℕ, ◌+◌, nat_lt, ℤ, pos, negsuc, ◌+ℤ◌, Bool, true, false, ◌&&◌, Option, Some, None, codes, if◌then◌else◌}
use Rattle.pt_meaning.specs.Basics.{Tag, Streams}
use Rattle.pt_meaning.specs.Machine.{Need}
use Rattle.pt_meaning.specs.Node.{Answer}
use Rattle.pt_value.specs.declared.token.Token.{Token}
use Rattle.pt_firing.specs.Params.{channels_to}
use Rattle.pt_firing.specs.Row.{is_present}
use Rattle.pt_flow_numbers.specs.declared.counter.Counter.{Counter}
use Rattle.pt_flow_base.specs.declared.params.Params.{Params}
use Rattle.pt_flow_base.specs.Row.{one_each, exactly, on_present}

abbrev pub need : Counter → Need
need actor = one_each actor.places

abbrev pub is_up : Counter → Streams Token → Bool
is_up actor X = actor.has_increment && is_present X 0

abbrev pub is_down : Counter → Streams Token → Bool
is_down actor X = is_present X (if actor.has_increment then 1 else 0)

-- by how much the count changes, if anything is present
abbrev pub change : Bool → Bool → Option ℤ
change true true = Some (pos 0)
change true false = Some (pos 1)
change false true = Some (negsuc 0)
change false false = None

-- with another count
abbrev pub at_count : Counter → ℤ → Counter
at_count actor count = record actor { count = count }

abbrev pub step : Tag → Counter → Streams Token → Answer Token Counter
step tag actor X = on_present actor (λ by. exactly (at_count actor (actor.count +ℤ by)) (actor.count +ℤ by)) (change (is_up actor X) (is_down actor X))

abbrev pub start_by : ℕ → ℕ → Option Counter
start_by increments decrements = Some (record { count = pos 0; has_increment = nat_lt 0 increments; places = increments + decrements })

abbrev pub start : Params → Option Counter
start params = start_by (channels_to (codes "increment") params.ports) (channels_to (codes "decrement") params.ports)

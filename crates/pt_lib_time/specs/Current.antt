-- Current: the latest present input, this tick's among them.
use Rattle.std.specs.Prelude.{Option, Some, None}
use Rattle.std.specs.Option.{option_or}
use Rattle.pt_meaning.specs.Basics.{Tag, Streams}
use Rattle.pt_meaning.specs.Machine.{Need}
use Rattle.pt_meaning.specs.Node.{Answer}
use Rattle.pt_value.specs.declared.token.Token.{Token}
use Rattle.pt_firing.specs.Row.{one_each, token_at}
use Rattle.pt_flow_base.specs.declared.params.Params.{Params}
use Rattle.pt_lib_time.specs.declared.current.Current.{Current}
use Rattle.pt_lib_time.specs.Signal.{shows}

abbrev pub need : Current → Need
need actor = one_each actor.places

-- it keeps the latest one, and gives what it keeps
abbrev pub with_latest : Current → Option Token → Answer Token Current
with_latest actor latest = shows (record actor { kept = latest }) latest

abbrev pub step : Tag → Current → Streams Token → Answer Token Current
step tag actor X = with_latest actor (option_or (token_at X 0) actor.kept)

-- none was present yet
abbrev pub start : Params → Option Current
start params = Some (record { kept = None; places = 1 })

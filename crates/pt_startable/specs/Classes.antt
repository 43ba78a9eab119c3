-- The classes of library actors, by the libraries that have them.
use Rattle.std.specs.Prelude.{ℕ, List, Bool, ◌||◌}
use Rattle.std.specs.Option.{is_some}
use Rattle.pt_lib_flow.specs.FlowActor as flow_actor
use Rattle.pt_lib_data.specs.Function as function
use Rattle.pt_lib_time.specs.TimeActor as time_actor
use Rattle.pt_lib_timed.specs.TimedActor as timed_actor

-- one of the four libraries has the class
abbrev pub is_of_library : List ℕ → Bool
is_of_library class = is_some (flow_actor.class_of class) || (is_some (function.class_of class) || (is_some (time_actor.class_of class) || is_some (timed_actor.class_of class)))

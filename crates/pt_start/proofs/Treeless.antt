-- The types of ports matter to actors that are started from a tree alone.
use Rattle.std.proofs.Common.{◌≡◌, ℕ, List, [], Option, Some, None, option_map, refl, sym, ap, ◌∙◌}
use Rattle.pt_datatypes.specs.Datatype.{Datatype}
use Rattle.pt_language.specs.declared.expr.Expr.{Expr}
use Rattle.pt_language.specs.Expr.{tree_of}
use Rattle.pt_flow_base.specs.declared.params.Params.{Params}
use Rattle.pt_lib_flow.specs.declared.flow_actor.Class.{Class as FlowClass}
use Rattle.pt_lib_flow.specs.declared.flow_actor.Class.TheVariants as flow_class
use Rattle.pt_lib_flow.specs.declared.flow_actor.FlowActor.TheVariants.{Expression}
use Rattle.pt_lib_flow.specs.FlowActor as flow
use Rattle.pt_lib_flow.specs.Expression as expression
use Rattle.pt_lib_data.specs.DataActor as data_actor
use Rattle.pt_lib_time.specs.declared.time_actor.Class.{Class as TimeClass}
use Rattle.pt_lib_time.specs.declared.time_actor.Class.TheVariants as time_class
use Rattle.pt_lib_time.specs.TimeActor as time
use Rattle.pt_lib_timed.specs.declared.timed_actor.Class.{Class as TimedClass}
use Rattle.pt_lib_timed.specs.declared.timed_actor.Class.TheVariants as timed_class
use Rattle.pt_lib_timed.specs.TimedActor as timed
use Rattle.pt_library.specs.declared.library_actor.LibraryActor.{LibraryActor}
use Rattle.pt_library.specs.declared.library_actor.LibraryActor.TheVariants.{Flow, Data, Time, Timed}
use Rattle.pt_library.specs.LibraryActor.{start}
use Rattle.std.specs.Option.{option_or}

-- the same with other types
abbrev pub with_types : Params → List (List ℕ × Datatype) → Params
with_types p types = record { class = p.class; values = p.values; ports = p.ports; types = types; tree = p.tree }

flow-treeless : (class : Option FlowClass) (p : Params) (types : List (List ℕ × Datatype)) → p.tree ≡ None → flow.start_in class (with_types p types) ≡ flow.start_in class p
flow-treeless None p types none = refl
flow-treeless (Some flow_class.AbsoluteValue) p types none = refl
flow-treeless (Some flow_class.Accumulator) p types none = refl
flow-treeless (Some flow_class.AddSubtract) p types none = refl
flow-treeless (Some flow_class.BooleanSelect) p types none = refl
flow-treeless (Some flow_class.BooleanSwitch) p types none = refl
flow-treeless (Some flow_class.Const) p types none = refl
flow-treeless (Some flow_class.Counter) p types none = refl
flow-treeless (Some flow_class.DownSample) p types none = refl
flow-treeless (Some flow_class.Maximum) p types none = refl
flow-treeless (Some flow_class.Minimum) p types none = refl
flow-treeless (Some flow_class.MultiplyDivide) p types none = refl
flow-treeless (Some flow_class.Ramp) p types none = refl
flow-treeless (Some flow_class.Repeat) p types none = refl
flow-treeless (Some flow_class.SampleDelay) p types none = refl
flow-treeless (Some flow_class.Scale) p types none = refl
flow-treeless (Some flow_class.Sequence) p types none = refl
flow-treeless (Some flow_class.UpSample) p types none = refl
flow-treeless (Some flow_class.Expression) p types none =
    ap (λ (tree : Option Expr). option_map Expression (expression.start_by tree (with_types p types))) none
    ∙ sym (ap (λ (tree : Option Expr). option_map Expression (expression.start_by tree p)) none)

time-treeless : (class : Option TimeClass) (p : Params) (types : List (List ℕ × Datatype)) → time.start_in class (with_types p types) ≡ time.start_in class p
time-treeless None p types = refl
time-treeless (Some time_class.Absent) p types = refl
time-treeless (Some time_class.Current) p types = refl
time-treeless (Some time_class.Default) p types = refl
time-treeless (Some time_class.Merge) p types = refl
time-treeless (Some time_class.NonStrictDelay) p types = refl
time-treeless (Some time_class.NonStrictLogicGate) p types = refl
time-treeless (Some time_class.NonStrictMux) p types = refl
time-treeless (Some time_class.Pre) p types = refl
time-treeless (Some time_class.When) p types = refl

timed-treeless : (class : Option TimedClass) (p : Params) (types : List (List ℕ × Datatype)) → timed.start_in class (with_types p types) ≡ timed.start_in class p
timed-treeless None p types = refl
timed-treeless (Some timed_class.CurrentTime) p types = refl
timed-treeless (Some timed_class.DiscreteClock) p types = refl
timed-treeless (Some timed_class.Register) p types = refl
timed-treeless (Some timed_class.Sampler) p types = refl
timed-treeless (Some timed_class.Server) p types = refl
timed-treeless (Some timed_class.SingleEvent) p types = refl
timed-treeless (Some timed_class.TimeDelay) p types = refl

pub start-treeless : (p : Params) (types : List (List ℕ × Datatype)) → p.tree ≡ None → start (with_types p types) ≡ start p
start-treeless p types none =
    let among : Option LibraryActor = option_map Data (data_actor.start p.class p.values p.ports) in
    ap (λ f. option_or (option_map Flow f) (option_or among (option_or (option_map Time (time.start (with_types p types))) (option_map Timed (timed.start (with_types p types)))))) (flow-treeless (flow.class_of p.class) p types none)
    ∙ ap (λ t. option_or (option_map Flow (flow.start p)) (option_or among (option_or (option_map Time t) (option_map Timed (timed.start (with_types p types)))))) (time-treeless (time.class_of p.class) p types)
    ∙ ap (λ t. option_or (option_map Flow (flow.start p)) (option_or among (option_or (option_map Time (time.start p)) (option_map Timed t)))) (timed-treeless (timed.class_of p.class) p types)

pub no-tree : (tree : Option Expr) → option_map tree_of tree ≡ None → tree ≡ None
no-tree None e = refl
no-tree (Some x) e = cc

use Rattle.std.proofs.Common.{◌≡◌, List, Option, Some, None, map, refl, subst, rules}
use Rattle.pt_value.specs.declared.token.Token.{Token}
use Rattle.pt_transitions.specs.declared.signal.Signal.{Signal}
use Rattle.pt_guards.specs.Acts.{reacted_by}
use Rattle.pt_transitions.specs.Alone.{reads_alone, IsOf}
use Rattle.pt_chart.specs.Views.{transition_view, mode_view}
use Rattle.pt_transitions.proofs.AloneLaws.{comes-move, comes-stay}
use Rattle.pt_transitions.proofs.signal.late_signal.Goals as goal

pub returns-in-Some-clause-comes : goal.returns-in-Some-clause-comes
returns-in-Some-clause-comes c table says =
    let modes = map mode_view c.args.modes.now in
    let values : List Token = c.args.values.now.items in
    let values' : List Token = c.signal_by.new.values.items in
    let r = reacted_by table c.args.mode (map transition_view c.args.transitions.now) (reads_alone values c.args.inputs.now) in
    let is : c.in_ok-signal.field-0 ≡ Some c.in-Some.signal = first_of (cc, search rules) in
    let of : IsOf modes values r (Some c.in-Some.signal) values' = subst (λ (o : Option Signal). IsOf modes values r o values') is (c.in_ok-signal.ensures.comes table c.args.mode says) in
    (of.2, comes-move modes c.args.mode values r c.in-Some.signal values' of)

pub returns-in-None-clause-comes : goal.returns-in-None-clause-comes
returns-in-None-clause-comes c table says =
    let modes = map mode_view c.args.modes.now in
    let values : List Token = c.args.values.now.items in
    let values' : List Token = c.signal_by.new.values.items in
    let r = reacted_by table c.args.mode (map transition_view c.args.transitions.now) (reads_alone values c.args.inputs.now) in
    let is : c.in_ok-signal.field-0 ≡ None = first_of (cc, search rules) in
    let of : IsOf modes values r None values' = subst (λ (o : Option Signal). IsOf modes values r o values') is (c.in_ok-signal.ensures.comes table c.args.mode says) in
    (c.requires.unrefined, comes-stay modes c.args.mode values r (record { target = c.args.mode; given = None }) values' refl of)

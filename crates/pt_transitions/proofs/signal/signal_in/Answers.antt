use Rattle.std.proofs.Common.{◌≡◌, List, Option, Some, None, IfNone, map, subst, rules}
use Rattle.pt_value.specs.declared.token.Token.{Token}
use Rattle.pt_transitions.specs.declared.signal.Signal.{Signal}
use Rattle.pt_chart.specs.declared.written.Transition.{Transition}
use Rattle.pt_guards.specs.Acts.{reacted_by}
use Rattle.pt_chart.specs.Machine.{mode_at}
use Rattle.pt_transitions.specs.Alone.{reads_alone, IsOf, ComesTo, by_both}
use Rattle.pt_chart.specs.Machine.{NameTable}
use Rattle.pt_guards.specs.Placed.{SayTransitions, SaysMode}
use Rattle.pt_chart.specs.Views.{transition_view, mode_view}
use Rattle.pt_transitions.proofs.AloneLaws.{both-move, both-stay, some-then, says-as}
use Rattle.pt_transitions.proofs.signal.signal_in.Goals as goal

pub returns-in-Some-clause-comes : goal.returns-in-Some-clause-comes
returns-in-Some-clause-comes c table says =
    let modes = map mode_view c.args.modes.now in
    let mode = c.args.mode in
    let inputs = c.args.inputs.now in
    let values : List Token = c.args.values.now.items in
    let values' : List Token = c.early_signal.new.values.items in
    let ts : List Transition = c.args.written.now.preemptive.items in
    let r = reacted_by table mode (map transition_view ts) (reads_alone values inputs) in
    let o = reacted_by table mode (map transition_view c.args.written.now.others.items) (reads_alone values inputs) in
    let is : c.in_ok-signal.field-0 ≡ Some c.in-Some.signal = first_of (cc, search rules) in
    let said = c.in_ok-signal.ensures.comes table mode (says-as table c.args.placed.now.preemptive.items c.deref-2.result.now ts c.deref.result.now c.deref-2.ensures.value c.deref.ensures.value says.preemptive) in
    let there : IsOf modes values r c.in_ok-signal.field-0 values' = subst (λ (us : List Transition). IsOf modes values (reacted_by table mode (map transition_view us) (reads_alone values inputs)) c.in_ok-signal.field-0 values') c.deref.ensures.value said in
    let of : IsOf modes values r (Some c.in-Some.signal) values' = subst (λ (u : Option Signal). IsOf modes values r u values') is there in
    (of.2, both-move modes mode values r o c.in-Some.signal values' of)

pub returns-in-None-clause-kept : goal.returns-in-None-clause-kept
returns-in-None-clause-kept c =
    let values : List Token = c.args.values.now.items in
    let middle : List Token = c.early_signal.new.values.items in
    let values' : List Token = c.late_signal.new.values.items in
    let is : c.in_ok-signal.field-0 ≡ None = first_of (cc, search rules) in
    let kept : middle ≡ values = subst (λ (u : Option Signal). IfNone u (middle ≡ values)) is c.in_ok-signal.ensures.stays in
    subst (λ (vs : List Token). IfNone c.late_signal.result (values' ≡ vs)) kept c.late_signal.ensures.kept

pub returns-in-None-clause-comes : goal.returns-in-None-clause-comes
returns-in-None-clause-comes c =
    let modes = map mode_view c.args.modes.now in
    let mode = c.args.mode in
    let inputs = c.args.inputs.now in
    let values : List Token = c.args.values.now.items in
    let middle : List Token = c.early_signal.new.values.items in
    let values' : List Token = c.late_signal.new.values.items in
    let ts : List Transition = c.args.written.now.preemptive.items in
    let os : List Transition = c.args.written.now.others.items in
    let late : List Transition = c.deref-in-None.result.now in
    let is : c.in_ok-signal.field-0 ≡ None = first_of (cc, search rules) in
    some-then
    (λ (s : Signal). (table : NameTable) → SayTransitions table c.deref-in-None-2.result.now (map transition_view late) → ((mode_at modes s.target).refinement ≡ None) × ComesTo mode middle (reacted_by table mode (map transition_view late) (reads_alone middle inputs)) s values')
    (λ (s : Signal). (table : NameTable) → SaysMode table c.args.placed.now (mode_view c.args.written.now) → ((mode_at modes s.target).refinement ≡ None) × ComesTo mode values (by_both (reacted_by table mode (map transition_view ts) (reads_alone values inputs)) (reacted_by table mode (map transition_view os) (reads_alone values inputs))) s values')
    (λ s made table says.
    let r = reacted_by table mode (map transition_view ts) (reads_alone values inputs) in
    let said = c.in_ok-signal.ensures.comes table mode (says-as table c.args.placed.now.preemptive.items c.deref-2.result.now ts c.deref.result.now c.deref-2.ensures.value c.deref.ensures.value says.preemptive) in
    let there : IsOf modes values r c.in_ok-signal.field-0 middle = subst (λ (us : List Transition). IsOf modes values (reacted_by table mode (map transition_view us) (reads_alone values inputs)) c.in_ok-signal.field-0 middle) c.deref.ensures.value said in
    let of : IsOf modes values r None middle = subst (λ (u : Option Signal). IsOf modes values r u middle) is there in
    let after = made table (says-as table c.args.placed.now.others.items c.deref-in-None-2.result.now os late c.deref-in-None-2.ensures.value c.deref-in-None.ensures.value says.others) in
    let comes : ComesTo mode middle (reacted_by table mode (map transition_view os) (reads_alone middle inputs)) s values' = subst (λ (us : List Transition). ComesTo mode middle (reacted_by table mode (map transition_view us) (reads_alone middle inputs)) s values') c.deref-in-None.ensures.value after.1 in
    (after.0, both-stay modes mode values r (λ (vs : List Token). reacted_by table mode (map transition_view os) (reads_alone vs inputs)) s middle values' of comes))
    c.late_signal.result c.late_signal.ensures.comes

use Rattle.std.proofs.Common.{◌≡◌, ◌<◌, ◌∙◌, [], List, length, map, sym, ap, arith, rules}
use Rattle.pt_meaning.specs.Modal.{One, chosen}
use Rattle.pt_value.specs.declared.token.Token.{Token}
use Rattle.pt_guards.specs.declared.choosing.Choice.TheVariants as choice
use Rattle.pt_chart.specs.declared.written.Transition.{Transition}
use Rattle.pt_chart.specs.Names.{names_in}
use Rattle.pt_guards.specs.Choose.{tests_in, choice_view}
use Rattle.pt_guards.specs.Placed.{SaysTransition}
use Rattle.pt_chart.specs.Views.{transition_view, mode_view}
use Rattle.pt_guards.proofs.PlacedLaws.{view-each, each-at}
use Rattle.pt_transitions.proofs.AloneLaws.{moves-alone}
use Rattle.pt_transitions.proofs.signal.signal_by.Goals as goal

pub returns-in_ok-taken-in-One-clause-comes : goal.returns-in_ok-taken-in-One-clause-comes
returns-in_ok-taken-in-One-clause-comes c table mode says =
    let ts : List Transition = c.args.transitions.now in
    let us : List Token = c.as_slice.result.now in
    let number = c.in-One.number in
    let x = c.index-transitions-number.result in
    let p = c.index-placed-number.result in
    let same : c.in_ok-chosen_quickly.field-0 ≡ choice.One number = first_of (cc, search rules) in
    let made : One number ≡ chosen 0 (tests_in (names_in table (record { values = us; inputs = c.args.inputs.now; given = [] })) (map transition_view ts)) = ap choice_view (sym same) ∙ c.in_ok-chosen_quickly.ensures table (map transition_view ts) says in
    let short : number < length ts = omega (arith, c.if-number-transitions.false) in
    let within : number < length c.args.placed.now = omega (arith, c.if-number-placed.false) in
    let told = each-at (λ q t. SaysTransition table q (transition_view t)) c.args.placed.now ts number p x (view-each (λ q t. SaysTransition table q t) transition_view c.args.placed.now ts says) within c.index-placed-number.is c.index-transitions-number.is in
    let taken = c.in_ok-taken-in-One.ensures in
    moves-alone table mode (map mode_view c.args.modes.now) us c.args.values.now.items c.args.inputs.now c.as_slice.ensures.value ts number x c.in_ok-taken-in-One.taken c.taken_in_place.new.values.items made short c.index-transitions-number.is taken.target.0 taken.target.1 (taken.puts table told.outputs) (taken.sets table told.sets)

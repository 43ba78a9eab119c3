use Rattle.std.proofs.Common.{◌≡◌, ◌++◌, ◌∷◌, [], List, subst, sym, take, ◌+◌, rules}
use Rattle.pt_guards.specs.Placed.{Each, SaysTransition}
use Rattle.pt_chart.specs.Views.{transition_view, names_view}
use Rattle.pt_guards.specs.declared.kept.PlacedTransition.{PlacedTransition}
use Rattle.pt_chart.specs.declared.written.Transition.{Transition}
use Rattle.pt_guards.proofs.PlacedLaws.{each-more, each-all}
use Rattle.pt_guards.proofs.kept.placed_transitions.Goals as goal

pub loop-transition-preserved : goal.loop-transition-preserved
loop-transition-preserved c =
    let table = names_view c.args.names.now in
    let xs = c.args.transitions.now in
    let n = c.loop-transition.transition-index in
    let p = c.in_ok-placed_transition.field-0 in
    let pushed : c.push.new.self.items ≡ c.loop-transition.placed.items ++ (p ∷ []) = first_of (cc, search rules) in
    subst (λ (ps : List PlacedTransition). Each (λ (q : PlacedTransition) (x : Transition). SaysTransition table q (transition_view x)) ps (take (n + 1) xs)) (sym pushed)
    (each-more (λ (q : PlacedTransition) (x : Transition). SaysTransition table q (transition_view x)) c.loop-transition.placed.items xs n p c.transition-item.result c.loop-transition.invariant c.loop-transition-test.true c.transition-item.is c.in_ok-placed_transition.ensures)

pub returns : goal.returns
returns c =
    let table = names_view c.args.names.now in
    each-all (λ p x. SaysTransition table p x) transition_view c.loop-transition.placed.items c.args.transitions.now c.loop-transition.transition-index c.loop-transition.invariant c.loop-transition-test.false

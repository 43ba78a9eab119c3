use Rattle.std.proofs.Common.{◌≡◌, ◌++◌, ◌∷◌, [], List, subst, sym, take, ◌+◌, rules}
use Rattle.pt_guards.specs.Placed.{Each, SaysAction}
use Rattle.pt_chart.specs.Views.{action_view, names_view}
use Rattle.pt_guards.specs.declared.placed.Placed.{Placed}
use Rattle.pt_chart.specs.declared.written.Action.{Action}
use Rattle.pt_guards.proofs.PlacedLaws.{each-more, each-all}
use Rattle.pt_guards.proofs.kept.placed_actions.Goals as goal

pub loop-action-preserved : goal.loop-action-preserved
loop-action-preserved c =
    let table = names_view c.args.names.now in
    let xs = c.args.actions.now in
    let n = c.loop-action.action-index in
    let p = c.in_ok-placed.field-0 in
    let pushed : c.push.new.self.items ≡ c.loop-action.made.items ++ (p ∷ []) = first_of (cc, search rules) in
    subst (λ (ps : List Placed). Each (λ (q : Placed) (x : Action). SaysAction table q (action_view x)) ps (take (n + 1) xs)) (sym pushed)
    (each-more (λ (q : Placed) (x : Action). SaysAction table q (action_view x)) c.loop-action.made.items xs n p c.action-item.result c.loop-action.invariant c.loop-action-test.true c.action-item.is c.in_ok-placed.ensures)

pub returns : goal.returns
returns c =
    let table = names_view c.args.names.now in
    each-all (λ p x. SaysAction table p x) action_view c.loop-action.made.items c.args.actions.now c.loop-action.action-index c.loop-action.invariant c.loop-action-test.false

use Rattle.std.proofs.Common.{ℕ, map, ap, ◌∙◌, None, Some, Option}
use Rattle.std.specs.Prelude.{option_map}
use Rattle.pt_meaning.specs.Streams.{Streams}
use Rattle.pt_value.specs.declared.token.Token.{Token}
use Rattle.pt_expr.specs.Env.{scope_of}
use Rattle.pt_firing.specs.RunFault.{code_of}
use Rattle.pt_firing.specs.declared.fault.RunFault.{RunFault}
use Rattle.pt_guards.specs.Acts.{put_all}
use Rattle.pt_chart.specs.Views.{action_view}
use Rattle.pt_guards.proofs.ActLaws.{right-action, put-next, none-left}
use Rattle.pt_guards.proofs.acts.put_all.Goals as goal

pub put_one-requires : goal.put_one-requires
put_one-requires c = record { right = right-action (scope_of c.args.env.now) c.args.actions.now c.loop-action.action-index c.action-item.result c.requires.right c.loop-action-test.true c.action-item.is }

pub loop-action-preserved : goal.loop-action-preserved
loop-action-preserved c =
    let out : Streams Token = c.put_one.new.outputs.items in
    c.loop-action.invariant
    ∙ put-next (scope_of c.args.env.now) c.args.actions.now c.loop-action.action-index c.action-item.result c.loop-action.outputs.items (None, out) c.loop-action-test.true c.action-item.is
    (c.in_ok-fault.ensures ∙ ap (λ (o : Option RunFault). let r : Option ℕ × Streams Token = (option_map code_of o, out) in r) c.in_default.is)

pub returns-in-Some : goal.returns-in-Some
returns-in-Some c =
    let out : Streams Token = c.put_one.new.outputs.items in
    c.loop-action.invariant
    ∙ put-next (scope_of c.args.env.now) c.args.actions.now c.loop-action.action-index c.action-item.result c.loop-action.outputs.items (Some (code_of c.in-Some.fault), out) c.loop-action-test.true c.action-item.is
    (c.in_ok-fault.ensures ∙ ap (λ (o : Option RunFault). let r : Option ℕ × Streams Token = (option_map code_of o, out) in r) c.in-Some.is)

pub returns : goal.returns
returns c = c.loop-action.invariant ∙ ap (λ xs. put_all (scope_of c.args.env.now) (map action_view xs) c.loop-action.outputs.items) (none-left c.args.actions.now c.loop-action.action-index c.loop-action-test.false)

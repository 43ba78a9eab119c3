use Rattle.std.proofs.Common.{◌≡◌, ◌++◌, ℕ, List, map, None, All, sym, ap, subst, ◌∙◌, rules}
use Rattle.std.specs.List.{Contains}
use Rattle.pt_language.specs.Expr.{tree_of}
use Rattle.pt_language.specs.Tree.{Tree}
use Rattle.pt_document.specs.declared.job.SetAction.{SetAction}
use Rattle.pt_document.specs.View.{transition_view}
use Rattle.pt_inequalities.specs.ModalScopes.{IsReadIn}
use Rattle.pt_charts.specs.Readable.{IsReadable, set_text}
use Rattle.pt_chart.specs.Views.{action_view}
use Rattle.pt_machine.specs.declared.cause.Cause.TheVariants as cause
use Rattle.pt_machine.specs.Machines.{IsSet, action_tree, seen_tokens}
use Rattle.pt_machine_parts.specs.Told.{IsTold}
use Rattle.pt_machine_parts.specs.Numbered.{numbers_view}
use Rattle.pt_machine_parts.specs.Own.{IsFaultOf}
use Rattle.pt_machine_parts.proofs.FaultLaws.{weaker}
use Rattle.pt_machines.specs.Sites.{entity_at, kids_at, scope_at}
use Rattle.pt_machines.proofs.TextLaws.{readable-at, tokens-more}
use Rattle.pt_machines.proofs.ActionLaws.{action-trees, actions-more, actions-all, set-fault}
use Rattle.pt_machines.proofs.actions.sets_of.Goals as goal

pub action-requires : goal.action-requires
action-requires c =
    let s = scope_at c.args.site.now in
    let all : All (IsReadable s) (map set_text c.as_slice-given.result.now) = subst (λ (zs : List SetAction). All (IsReadable s) (map set_text zs)) (sym c.as_slice-given.ensures.value) c.requires.readable in
    subst (IsReadable s) (sym c.as_str-text.ensures) (readable-at (IsReadable s) set_text c.as_slice-given.result.now c.loop-set.set-index c.set-item.result all c.loop-set-test.true c.set-item.is)

pub returns-in_err-made-clause-told : goal.returns-in_err-made-clause-told
returns-in_err-made-clause-told c =
    let m = c.args.site.now.modal in
    let t = transition_view c.args.transition.now in
    let a = c.set-item.result in
    let has : Contains t.set a = subst (λ (zs : List SetAction). Contains zs a) c.as_slice-given.ensures.value (c.loop-set.set-index, c.loop-set-test.true, sym c.set-item.is) in
    let told : IsTold (IsFaultOf m) c.in_err-made.field-0.0 =
    weaker (λ why. (why ≡ cause.SetAction) × (numbers_view m.own.variables c.as_str-name.result.now ≡ None)) (IsFaultOf m)
    (set-fault (entity_at c.args.site.now) (kids_at c.args.site.now) m.is_parted t c.requires.there (numbers_view m.own.variables) c.as_str-name.result.now a has c.requires.numbered.variables c.as_str-name.ensures)
    c.in_err-made.field-0.0 c.in_err-made.ensures.told in
    let h = c.from_residual-in_err-made.ensures in
    search (rules, told, h)

pub loop-set-preserved : goal.loop-set-preserved
loop-set-preserved c =
    let site = c.args.site.now in
    let s = scope_at site in
    let e = entity_at site in
    let xs = c.loop-set.actions.items in
    let x = c.in_ok-made.made in
    let m = site.modal in
    let a = c.set-item.result in
    record {
      read = actions-more (IsSet s e) c.as_slice-given.result.now c.loop-set.set-index a c.loop-set-test.true c.set-item.is xs c.push.new.self.items x c.loop-set.invariant.read
          (record { target = sym (c.requires.numbered.variables a.name) ∙ ap (numbers_view m.own.variables) (sym c.as_str-name.ensures) ∙ c.in_ok-made.ensures.target; read = subst (λ (w : List ℕ). IsReadIn s w (tree_of x.value)) c.as_str-text.ensures c.in_ok-made.ensures.read }) c.in_ok-push.ensures.items;
      seen = tokens-more s.around (map action_tree (map action_view xs)) (tree_of x.value) c.args.seen.now.items c.loop-set.seen.items c.action.new.seen.items c.loop-set.invariant.seen c.in_ok-made.ensures.seen
          ∙ ap (λ (ts : List Tree). c.args.seen.now.items ++ seen_tokens s.around ts) (sym (action-trees xs c.push.new.self.items x c.in_ok-push.ensures.items));
    }

pub returns-clause-read : goal.returns-clause-read
returns-clause-read c =
    actions-all (IsSet (scope_at c.args.site.now) (entity_at c.args.site.now)) c.as_slice-given.result.now (transition_view c.args.transition.now).set c.as_slice-given.ensures.value c.loop-set.set-index (map action_view c.loop-set.actions.items) c.loop-set-test.false c.loop-set.invariant.read

use Rattle.std.proofs.Common.{◌≡◌, ◌++◌, ℕ, List, map, None, All, sym, ap, subst, ◌∙◌, rules}
use Rattle.std.specs.List.{Contains}
use Rattle.pt_language.specs.Expr.{tree_of}
use Rattle.pt_language.specs.Tree.{Tree}
use Rattle.pt_document.specs.declared.job.OutputAction.{OutputAction}
use Rattle.pt_document.specs.View.{transition_view}
use Rattle.pt_inequalities.specs.ModalScopes.{IsReadIn}
use Rattle.pt_charts.specs.Readable.{IsReadable, output_text}
use Rattle.pt_chart.specs.Views.{action_view}
use Rattle.pt_machine.specs.declared.cause.Cause.TheVariants as cause
use Rattle.pt_machine.specs.Machines.{IsOutput, action_tree, seen_tokens}
use Rattle.pt_machine_parts.specs.Told.{IsTold}
use Rattle.pt_machine_parts.specs.Numbered.{numbers_view}
use Rattle.pt_machine_parts.specs.Own.{IsFaultOf}
use Rattle.pt_machine_parts.proofs.FaultLaws.{weaker}
use Rattle.pt_machines.specs.Sites.{entity_at, kids_at, scope_at}
use Rattle.pt_machines.proofs.TextLaws.{readable-at, tokens-more}
use Rattle.pt_machines.proofs.ActionLaws.{action-trees, actions-more, actions-all, output-fault}
use Rattle.pt_machines.proofs.actions.outputs_of.Goals as goal

pub action-requires : goal.action-requires
action-requires c =
    let s = scope_at c.args.site.now in
    let all : All (IsReadable s) (map output_text c.as_slice-given.result.now) = subst (λ (zs : List OutputAction). All (IsReadable s) (map output_text zs)) (sym c.as_slice-given.ensures.value) c.requires.readable in
    subst (IsReadable s) (sym c.as_str-text.ensures) (readable-at (IsReadable s) output_text c.as_slice-given.result.now c.loop-output.output-index c.output-item.result all c.loop-output-test.true c.output-item.is)

pub returns-in_err-made-clause-told : goal.returns-in_err-made-clause-told
returns-in_err-made-clause-told c =
    let m = c.args.site.now.modal in
    let t = transition_view c.args.transition.now in
    let a = c.output-item.result in
    let has : Contains t.output a = subst (λ (zs : List OutputAction). Contains zs a) c.as_slice-given.ensures.value (c.loop-output.output-index, c.loop-output-test.true, sym c.output-item.is) in
    let told : IsTold (IsFaultOf m) c.in_err-made.field-0.0 =
    weaker (λ why. (why ≡ cause.OutputAction) × (numbers_view m.own.ports.outputs c.as_str-name.result.now ≡ None)) (IsFaultOf m)
    (output-fault (entity_at c.args.site.now) (kids_at c.args.site.now) m.is_parted t c.requires.there (numbers_view m.own.ports.outputs) c.as_str-name.result.now a has c.requires.numbered.ports.outputs c.as_str-name.ensures)
    c.in_err-made.field-0.0 c.in_err-made.ensures.told in
    let h = c.from_residual-in_err-made.ensures in
    search (rules, told, h)

pub loop-output-preserved : goal.loop-output-preserved
loop-output-preserved c =
    let site = c.args.site.now in
    let s = scope_at site in
    let e = entity_at site in
    let xs = c.loop-output.actions.items in
    let x = c.in_ok-made.made in
    let m = site.modal in
    let a = c.output-item.result in
    record {
      read = actions-more (IsOutput s e) c.as_slice-given.result.now c.loop-output.output-index a c.loop-output-test.true c.output-item.is xs c.push.new.self.items x c.loop-output.invariant.read
          (record { target = sym (c.requires.numbered.ports.outputs a.port) ∙ ap (numbers_view m.own.ports.outputs) (sym c.as_str-name.ensures) ∙ c.in_ok-made.ensures.target; read = subst (λ (w : List ℕ). IsReadIn s w (tree_of x.value)) c.as_str-text.ensures c.in_ok-made.ensures.read }) c.in_ok-push.ensures.items;
      seen = tokens-more s.around (map action_tree (map action_view xs)) (tree_of x.value) c.args.seen.now.items c.loop-output.seen.items c.action.new.seen.items c.loop-output.invariant.seen c.in_ok-made.ensures.seen
          ∙ ap (λ (ts : List Tree). c.args.seen.now.items ++ seen_tokens s.around ts) (sym (action-trees xs c.push.new.self.items x c.in_ok-push.ensures.items));
    }

pub returns-clause-read : goal.returns-clause-read
returns-clause-read c =
    actions-all (IsOutput (scope_at c.args.site.now) (entity_at c.args.site.now)) c.as_slice-given.result.now (transition_view c.args.transition.now).output c.as_slice-given.ensures.value c.loop-output.output-index (map action_view c.loop-output.actions.items) c.loop-output-test.false c.loop-output.invariant.read

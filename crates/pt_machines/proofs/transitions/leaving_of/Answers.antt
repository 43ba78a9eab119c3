use Rattle.std.proofs.Common.{◌≡◌, ◌++◌, ◌∷◌, [], ℕ, List, map, None, refl, sym, ap, subst, ◌∙◌, rules}
use Rattle.std.proofs.lemmas.List.Elements.{All-head, All-tail}
use Rattle.pt_language.specs.Expr.{tree_of}
use Rattle.pt_language.specs.Tree.{Tree}
use Rattle.pt_document.specs.View.{transition_view}
use Rattle.pt_inequalities.specs.ModalScopes.{IsReadIn}
use Rattle.pt_charts.specs.Readable.{IsReadable, output_text, set_text}
use Rattle.pt_chart.specs.Views.{action_view}
use Rattle.pt_machine.specs.declared.cause.Cause.TheVariants as cause
use Rattle.pt_machine.specs.Machines.{action_tree}
use Rattle.pt_machine_parts.specs.Told.{IsTold}
use Rattle.pt_machine_parts.specs.Numbered.{numbers_view}
use Rattle.pt_machine_parts.specs.Own.{IsFaultOf}
use Rattle.pt_machine_parts.proofs.FaultLaws.{weaker}
use Rattle.pt_machines.specs.Sites.{entity_at, kids_at, scope_at}
use Rattle.pt_machines.proofs.TextLaws.{tokens-more, tokens-then, All-before, All-behind, no-tokens}
use Rattle.pt_machines.proofs.ActionLaws.{from-fault, to-fault}
use Rattle.pt_machines.proofs.transitions.leaving_of.Goals as goal

pub returns-in_err-from-clause-told : goal.returns-in_err-from-clause-told
returns-in_err-from-clause-told c =
    let m = c.args.site.now.modal in
    let told : IsTold (IsFaultOf m) c.in_err-from.field-0.0 =
    weaker (λ why. (why ≡ cause.From) × (numbers_view m.own.states c.as_str-left.result.now ≡ None)) (IsFaultOf m)
    (from-fault (entity_at c.args.site.now) (kids_at c.args.site.now) m.is_parted (transition_view c.args.transition.now) c.requires.there (numbers_view m.own.states) c.as_str-left.result.now c.requires.numbered.states c.as_str-left.ensures)
    c.in_err-from.field-0.0 c.in_err-from.ensures.told in
    let h = c.from_residual.ensures in
    search (rules, told, h)

pub returns-in_err-target-clause-told : goal.returns-in_err-target-clause-told
returns-in_err-target-clause-told c =
    let m = c.args.site.now.modal in
    let told : IsTold (IsFaultOf m) c.in_err-target.field-0.0 =
    weaker (λ why. (why ≡ cause.To) × (numbers_view m.own.states c.as_str-entered.result.now ≡ None)) (IsFaultOf m)
    (to-fault (entity_at c.args.site.now) (kids_at c.args.site.now) m.is_parted (transition_view c.args.transition.now) c.requires.there (numbers_view m.own.states) c.as_str-entered.result.now c.requires.numbered.states c.as_str-entered.ensures)
    c.in_err-target.field-0.0 c.in_err-target.ensures.told in
    let h = c.from_residual-in_err-target.ensures in
    search (rules, told, h)

pub tree_in-requires : goal.tree_in-requires
tree_in-requires c =
    let s = scope_at c.args.site.now in
    let t = transition_view c.args.transition.now in
    subst (IsReadable s) (sym c.as_str-text.ensures) (All-head (IsReadable s) t.guard (map output_text t.output ++ map set_text t.set) c.requires.readable)

pub outputs_of-requires-clause-readable : goal.outputs_of-requires-clause-readable
outputs_of-requires-clause-readable c =
    let s = scope_at c.args.site.now in
    let t = transition_view c.args.transition.now in
    All-before (IsReadable s) (map output_text t.output) (map set_text t.set) (All-tail (IsReadable s) t.guard (map output_text t.output ++ map set_text t.set) c.requires.readable)

pub sets_of-requires-clause-readable : goal.sets_of-requires-clause-readable
sets_of-requires-clause-readable c =
    let s = scope_at c.args.site.now in
    let t = transition_view c.args.transition.now in
    All-behind (IsReadable s) (map output_text t.output) (map set_text t.set) (All-tail (IsReadable s) t.guard (map output_text t.output ++ map set_text t.set) c.requires.readable)

pub returns-clause-read : goal.returns-clause-read
returns-clause-read c =
    let m = c.args.site.now.modal in
    let s = scope_at c.args.site.now in
    let t = transition_view c.args.transition.now in
    record {
      from = sym (c.requires.numbered.states t.from) ∙ ap (numbers_view m.own.states) (sym c.as_str-left.ensures) ∙ c.in_ok-from.ensures.ok;
      early = refl;
      guard = subst (λ (w : List ℕ). IsReadIn s w (tree_of c.in_ok-guard.guard)) c.as_str-text.ensures c.in_ok-guard.ensures.read;
      outputs = c.in_ok-outputs.ensures.read;
      sets = c.in_ok-sets.ensures.read;
      target = sym (c.requires.numbered.states t.to) ∙ ap (numbers_view m.own.states) (sym c.as_str-entered.ensures) ∙ c.in_ok-target.ensures.ok;
      history = refl;
    }

pub returns-clause-seen : goal.returns-clause-seen
returns-clause-seen c =
    let around = (scope_at c.args.site.now).around in
    let start = c.args.seen.now.items in
    let guard : List Tree = tree_of c.in_ok-guard.guard ∷ [] in
    let outputs = map action_tree (map action_view c.in_ok-outputs.outputs.items) in
    let sets = map action_tree (map action_view c.in_ok-sets.sets.items) in
    let first = tokens-more around [] (tree_of c.in_ok-guard.guard) start start c.tree_in.new.seen.items (no-tokens around start) c.in_ok-guard.ensures.seen in
    let second = tokens-then around guard outputs start c.tree_in.new.seen.items c.outputs_of.new.seen.items first c.in_ok-outputs.ensures.seen in
    tokens-then around (guard ++ outputs) sets start c.outputs_of.new.seen.items c.sets_of.new.seen.items second c.in_ok-sets.ensures.seen

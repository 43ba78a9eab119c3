use Rattle.std.proofs.Common.{map}
use Rattle.pt_document.specs.View.{transition_view}
use Rattle.pt_chart.specs.Views.{mode_view}
use Rattle.pt_charts.specs.Readable.{IsReadable, transition_texts}
use Rattle.pt_machines.specs.Sites.{entity_at, kids_at, scope_at}
use Rattle.pt_machines.specs.Views.{leaving_view}
use Rattle.pt_machines.proofs.MachineLaws.{texts-of, added-more, added-all, added-none, given-there}
use Rattle.pt_machines.proofs.chart.add_transitions.Goals as goal

pub loop-transition-init : goal.loop-transition-init
loop-transition-init c = added-none c.args.site.now (map mode_view c.args.modes.now.items) c.args.seen.now.items c.requires.modes c.requires.seen

pub leaving_of-requires-clause-readable : goal.leaving_of-requires-clause-readable
leaving_of-requires-clause-readable c =
    let site = c.args.site.now in
    let t = c.transition-item.result in
    texts-of (IsReadable (scope_at site)) transition_texts (entity_at site).transitions (transition_view t) c.requires.readable
    (given-there c.as_slice-transitions.result.now site.modal.entity.now.transitions.items c.loop-transition.transition-index t c.as_slice-transitions.ensures.value c.loop-transition-test.true c.transition-item.is)

pub leaving_of-requires-clause-there : goal.leaving_of-requires-clause-there
leaving_of-requires-clause-there c =
    given-there c.as_slice-transitions.result.now c.args.site.now.modal.entity.now.transitions.items c.loop-transition.transition-index c.transition-item.result c.as_slice-transitions.ensures.value c.loop-transition-test.true c.transition-item.is

pub loop-transition-preserved : goal.loop-transition-preserved
loop-transition-preserved c =
    let site = c.args.site.now in
    added-more site c.as_slice-transitions.result.now c.loop-transition.transition-index c.transition-item.result c.loop-transition-test.true c.transition-item.is (map mode_view c.loop-transition.modes.items) (map mode_view c.put.new.modes.items) c.loop-transition.seen.items c.leaving_of.new.seen.items (leaving_view c.in_ok-leaving.leaving) c.in_ok-leaving.ensures.read c.in_ok-leaving.ensures.seen (c.in_ok-put.ensures (entity_at site) (kids_at site)) c.loop-transition.invariant

pub returns-clause-ok : goal.returns-clause-ok
returns-clause-ok c =
    added-all c.args.site.now c.as_slice-transitions.result.now c.args.site.now.modal.entity.now.transitions.items c.loop-transition.transition-index (map mode_view c.loop-transition.modes.items) c.loop-transition.seen.items c.as_slice-transitions.ensures.value c.loop-transition-test.false c.loop-transition.invariant

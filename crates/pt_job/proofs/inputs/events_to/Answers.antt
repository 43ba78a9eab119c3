use Rattle.std.proofs.Common.{List, length, sym, ap, ◌∙◌}
use Rattle.pt_document.specs.declared.job.Event.{Event}
use Rattle.pt_scopes.specs.Scopes.{net_view}
use Rattle.pt_job.specs.Inputs.{input_to, are_in_order}
use Rattle.pt_job.proofs.Timed.{in-order, counted}
use Rattle.pt_job.proofs.inputs.events_to.Goals as goal

pub at_tags-requires-clause-order : goal.at_tags-requires-clause-order
at_tags-requires-clause-order c =
    let net = net_view c.args.lookup.now.net.now in
    ap are_in_order c.events_to.ensures ∙ in-order net c.requires.clean (input_to net c.args.port.now)

pub at_tags-requires-clause-each : goal.at_tags-requires-clause-each
at_tags-requires-clause-each c =
    let net = net_view c.args.lookup.now.net.now in
    counted net c.args.values.now c.requires.valued c.requires.clean c.requires.timed c.args.port.now c.list_to.result.now c.list_to.ensures.comes ∙ ap (λ (es : List Event). length es) (sym c.events_to.ensures)

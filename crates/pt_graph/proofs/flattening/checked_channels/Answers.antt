use Rattle.std.proofs.Common.{ap, refl}
use Rattle.std.proofs.lemmas.Result.{IfOk-weaker}
use Rattle.pt_links.specs.declared.wiring.Wiring.{Wiring}
use Rattle.pt_survey.specs.Survey.{tables_view}
use Rattle.pt_graph.proofs.Verdict.{held_channels}
use Rattle.pt_graph.proofs.flattening.checked_channels.Goals as goal

pub returns-clause-ok : goal.returns-clause-ok
returns-clause-ok c =
    let t = tables_view c.args.wiring.now.tables.now in
    IfOk-weaker c.channels_of-channels.result _ _ (λ channels good.
    held_channels t t (tables_view c.in_ok-origins.origins.wiring.now.tables.now) channels.items refl
    (ap (λ (w : Wiring). tables_view w.tables.now) c.in_ok-origins.ensures.wiring)
    c.requires.wiring.owned c.requires.named c.in_ok-check_ports.ensures.ok c.in_ok-check_counts.ensures.ok c.in_ok-check_groups.ensures.ok good) c.channels_of-channels.ensures.ok

use Rattle.std.proofs.Common.{true, List, [], sym, subst}
use Rattle.std.specs.List.{AllZip}
use Rattle.pt_net.specs.declared.net.Channel.{Channel}
use Rattle.pt_survey.specs.Survey.{tables_view}
use Rattle.pt_net.specs.Net.{wires}
use Rattle.pt_graph.specs.ChannelTable.{IsGoodChannel, side_among}
use Rattle.pt_graph.proofs.channels.channels_of.Goals as goal

pub returns-clause-ok : goal.returns-clause-ok
returns-clause-ok c =
    let t = tables_view c.args.origins.now.wiring.now.tables.now in
    let none : AllZip (IsGoodChannel t) [] c.new-channels.result.items = subst (λ (ks : List Channel). AllZip (IsGoodChannel t) [] ks) (sym c.new-channels.ensures.items) tt in
    c.in_ok-add_side-2.ensures.ok (side_among (wires t) true t.ports) (c.in_ok-add_side.ensures.ok [] none)

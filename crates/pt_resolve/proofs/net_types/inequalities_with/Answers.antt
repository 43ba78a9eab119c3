use Rattle.std.proofs.Common.{map}
use Rattle.pt_charts.specs.Views.{chart_view}
use Rattle.pt_resolve.proofs.NetTypings.{all-made}
use Rattle.pt_resolve.proofs.net_types.inequalities_with.Goals as goal

pub returns : goal.returns
returns c =
    all-made c.args.net.now c.args.values.now (map chart_view c.args.charts.now) c.requires.charts _ _ _ _ _ _ _ c.requires.lists c.deref.ensures.value c.in_ok-inequalities.ensures c.in_ok-add_declared.ensures c.in_ok-add_refinements.ensures c.in_ok-add_charts.ensures c.in_ok-add_passing.ensures

-- All inequalities of a net.
use Rattle.std.specs.Prelude.{◌≡◌, List, ◌++◌, map, length}
use Rattle.pt_net.specs.declared.net.Net.{Net}
use Rattle.pt_net.specs.Net.{entity_view}
use Rattle.pt_scopes.specs.declared.values.Values.{Values}
use Rattle.pt_scopes.specs.Valued as valued
use Rattle.pt_typing.specs.Views.{Inequality}
use Rattle.pt_inequalities.specs.Frames.{frames_of}
use Rattle.pt_inequalities.specs.Inequalities.{inequalities}
use Rattle.pt_inequalities.specs.Passing.{passing}
use Rattle.pt_resolve.specs.DeclaredTypes.{declared}
use Rattle.pt_inequalities.specs.Modals.{refined, of_charts, Chart, AreCharts}

-- these are the inequalities of a net, then those of the types that ports declare, of refinements, and of output actions
pub record AreAll (net : Net) (values : Values) (qs : List Inequality) : Type 0 where
  pub charts : List Chart
  pub are : AreCharts (frames_of net values) (map entity_view net.entities.items) (map valued.entity_view values.entities.items) (length (map entity_view net.entities.items)) charts
  pub is : qs ≡ (((inequalities net values ++ declared net) ++ refined (map entity_view net.entities.items)) ++ of_charts charts) ++ passing net

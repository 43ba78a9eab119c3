-- What the program holds of Modal entities: what their texts may name, and what they read as.
use Rattle.std.specs.Prelude.{map, Some, None, option_map}
use Rattle.pt_language.specs.Expr.{tree_of}
use Rattle.pt_scopes.specs.Names.{held}
use Rattle.pt_charts.specs.declared.modal_scope.ModalScope.{ModalScope as GivenScope}
use Rattle.pt_charts.specs.declared.modal_texts.ActionTree.{ActionTree as GivenAction}
use Rattle.pt_charts.specs.declared.modal_texts.TransitionTrees.{TransitionTrees as GivenTrees}
use Rattle.pt_charts.specs.declared.charts.Chart.{Chart as GivenChart}
use Rattle.pt_inequalities.specs.ModalScopes.{ModalScope}
use Rattle.pt_inequalities.specs.Modals.{ActionTree, TransitionTrees, Chart}
use Rattle.pt_inequalities.specs.Frames.{seen}
use Rattle.pt_frames.specs.Views.{frames_view, port_numbers}

abbrev pub scope_view : GivenScope → ModalScope
scope_view s = record { number = s.number; ports = port_numbers s.ports; variables = held s.variables; around = seen (frames_view s.frames.now) None (Some s.number) }

abbrev pub action_view : GivenAction → ActionTree
action_view a = (a.name, option_map tree_of a.tree)

abbrev pub transition_trees : GivenTrees → TransitionTrees
transition_trees t = record { guard = option_map tree_of t.guard; output = map action_view t.output.items; set = map action_view t.set.items }

abbrev pub chart_view : GivenChart → Chart
chart_view c = record { scope = scope_view c.scope; transitions = map transition_trees c.transitions.items }

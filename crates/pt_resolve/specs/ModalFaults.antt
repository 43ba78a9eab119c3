-- Tests that tell where the typing breaks in guards and actions.
use Rattle.std.specs.Prelude.{ℕ, List, [], ◌∷◌, Bool, false, not, ◌||◌, Option, Some, None, option_map, length, ◌≡◌, if◌then◌else◌}
use Rattle.std.specs.List.{list_any}
use Rattle.pt_datatypes.specs.Datatype.{Boolean}
use Rattle.pt_datatypes.specs.Order.{is_below}
use Rattle.pt_datatypes.specs.Token.{type_of_value}
use Rattle.pt_language.specs.Tree.{Tree}
use Rattle.pt_language.specs.Rule.{type_or_general}
use Rattle.pt_net.specs.Net.{NetEntityTree}
use Rattle.pt_scopes.specs.Valued.{EntityView}
use Rattle.pt_typing.specs.Terms.{has_type}
use Rattle.pt_typing.specs.Least.{Assignment}
use Rattle.pt_inequalities.specs.Frames.{Frames}
use Rattle.pt_inequalities.specs.ModalScopes.{ModalScope, modal_types}
use Rattle.pt_inequalities.specs.Modals.{ActionTree, TransitionTrees, Chart, AreCharts}
use Rattle.pt_resolve.specs.Broken.{is_over_type}

-- a guard or an action has no type
abbrev pub is_untyped : Assignment → ModalScope → Option Tree → Bool
is_untyped typing s None = false
is_untyped typing s (Some t) = not (has_type (modal_types typing s t) t)

-- a guard is no truth value
abbrev pub is_no_truth : Assignment → ModalScope → Option Tree → Bool
is_no_truth typing s None = false
is_no_truth typing s (Some t) = not (is_below (type_or_general (modal_types typing s t) t) Boolean)

abbrev pub guard_fails : Assignment → ModalScope → Option Tree → Bool
guard_fails typing s t = is_untyped typing s t || is_no_truth typing s t

abbrev pub output_fails : Assignment → ModalScope → ActionTree → Bool
output_fails typing s a = is_untyped typing s a.1

-- a set action gives what its Variable doesn't hold
abbrev pub is_over_variable : Assignment → ModalScope → List ℕ → Option Tree → Bool
is_over_variable typing s name None = false
is_over_variable typing s name (Some t) = is_over_type (type_or_general (modal_types typing s t) t) (option_map type_of_value (s.variables name))

abbrev pub set_fails : Assignment → ModalScope → ActionTree → Bool
set_fails typing s a = is_untyped typing s a.1 || is_over_variable typing s a.0 a.1

abbrev pub transition_fails : Assignment → ModalScope → TransitionTrees → Bool
transition_fails typing s t = (guard_fails typing s t.guard || list_any (output_fails typing s) t.output) || list_any (set_fails typing s) t.set

abbrev pub chart_fails : Assignment → Chart → Bool
chart_fails typing c = list_any (transition_fails typing c.scope) c.transitions

-- the number of the first Modal entity in which the typing breaks in a guard or an action
abbrev pub first_failing : Assignment → List Chart → Option ℕ
first_failing typing [] = None
first_failing typing (c ∷ cs) = if chart_fails typing c then Some c.scope.number else first_failing typing cs

-- this is the first failing of the charts of these entities
pub record IsFailing (frames : Frames) (typing : Assignment) (es : List NetEntityTree) (vs : List EntityView) (found : Option ℕ) : Type 0 where
  pub charts : List Chart
  pub are : AreCharts frames es vs (length es) charts
  pub is : found ≡ first_failing typing charts

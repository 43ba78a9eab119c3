-- Guards and actions that have a type where their names have theirs, so that none is ever wrong.
use Rattle.std.specs.Prelude.{List, Bool, ◌&&◌}
use Rattle.std.specs.List.{list_all}
use Rattle.pt_language.specs.Tree.{Tree}
use Rattle.pt_language.specs.Types.{Types}
use Rattle.pt_language.specs.TreeType.{tree_type, are_bound}
use Rattle.pt_formula.specs.Formula.{parameter_types, with_types, has_type}
use Rattle.pt_chart.specs.Machine.{ActionTree, TransitionTree, ModeTree, NameTable, Machine}

-- the types of all names
abbrev pub types_of : NameTable → Types
types_of names = with_types names.inputs (with_types names.outputs (with_types names.variables (parameter_types names.parameters)))

-- each name in the expression is in scope, and there is no clash
abbrev pub is_typed : Types → Tree → Bool
is_typed types tree = are_bound types tree && has_type (tree_type types tree)

abbrev pub are_typed_actions : Types → List ActionTree → Bool
are_typed_actions types actions = list_all (λ a. is_typed types a.tree) actions

abbrev pub is_typed_transition : Types → TransitionTree → Bool
is_typed_transition types t = is_typed types t.guard && (are_typed_actions types t.outputs && are_typed_actions types t.sets)

abbrev pub are_typed_transitions : Types → List TransitionTree → Bool
are_typed_transitions types ts = list_all (is_typed_transition types) ts

abbrev pub is_typed_mode : Types → ModeTree → Bool
is_typed_mode types m = are_typed_transitions types m.preemptive && are_typed_transitions types m.others

abbrev pub are_typed_modes : Types → List ModeTree → Bool
are_typed_modes types modes = list_all (is_typed_mode types) modes

-- all guards and actions have a type
abbrev pub is_typed_machine : Machine → Bool
is_typed_machine m = are_typed_modes (types_of m.names) m.modes

-- What the names in guards and actions stand for: a token where there is one, of the type of its name.
use Rattle.std.specs.Prelude.{ℕ, suc, ◌≡◌, List, [], ◌∷◌, Bool, false, ◌||◌, not, Option, Some, None, unwrap_or, if◌then◌else◌}
use Rattle.pt_meaning.specs.Streams.{get}
use Rattle.pt_meaning.specs.Transitions.{input_in, output_in, variable_in}
use Rattle.pt_meaning.specs.Transitions.{Scope as Reads}
use Rattle.pt_value.specs.Value.{Value}
use Rattle.pt_value.specs.Token.{value_of}
use Rattle.pt_value.specs.declared.token.Token.{Token}
use Rattle.pt_datatypes.specs.Datatype.{Datatype}
use Rattle.pt_datatypes.specs.Order.{is_below}
use Rattle.pt_datatypes.specs.Token.{type_of_value}
use Rattle.pt_language.specs.Scope.{Scope}
use Rattle.pt_formula.specs.Formula.{names, parameters, with_name, is_among}
use Rattle.pt_chart.specs.Machine.{NameTable}

-- A token where it is of a type. One that isn't counts as none, so that nothing is ever wrong; in a net whose types are right there is none such.
abbrev pub of_type : Datatype → Option Token → Option Value
of_type t None = None
of_type t (Some x) = if is_below (type_of_value (value_of x)) t then Some (value_of x) else None

-- names bound one after another, the name at number k to what is read there
abbrev pub with_names : (k : ℕ) → List (List ℕ × Datatype) → (read : ℕ → Option Token) → Scope → Scope
with_names k [] read scope = scope
with_names k (entry ∷ entries) read scope = with_names (suc k) entries read (with_name entry.0 (of_type entry.1 (read k)) scope)

-- what all names stand for over those of the parameters: a port hides a Variable of its name, and that a parameter
abbrev pub over : NameTable → Reads Token → Scope → Scope
over table reads scope = with_names 0 table.inputs (input_in reads) (with_names 0 table.outputs (output_in reads) (with_names 0 table.variables (variable_in reads) scope))

abbrev pub names_in : NameTable → Reads Token → Scope
names_in table reads = over table reads (parameters table.parameters)

-- a name is that of a port or a Variable
abbrev pub is_named : NameTable → List ℕ → Bool
is_named table name = is_among name (names table.variables) || (is_among name (names table.outputs) || is_among name (names table.inputs))

-- a scope has the parameters under all other names
abbrev pub HasParameters : NameTable → Scope → Type 0
HasParameters table scope = (name : List ℕ) → is_named table name ≡ false → scope name ≡ parameters table.parameters name

-- ---- a Variable that has another value

-- a port has the name
abbrev pub is_port : NameTable → List ℕ → Bool
is_port table name = is_among name (names table.outputs) || is_among name (names table.inputs)

-- of each of these Variables, whether no later one has its name, and none of the names that are taken is that
abbrev pub shown_among : (taken : List ℕ → Bool) → List (List ℕ × Datatype) → List Bool
shown_among taken [] = []
shown_among taken (e ∷ es) = not (is_among e.0 (names es) || taken e.0) ∷ shown_among taken es

-- which Variables are what their names stand for: neither a later Variable nor a port hides them
abbrev pub are_shown : NameTable → List Bool
are_shown table = shown_among (is_port table) table.variables

abbrev pub renamed : Option (List ℕ × Datatype) → Token → Scope → Scope
renamed (Some e) x scope = with_name e.0 (of_type e.1 (Some x)) scope
renamed None x scope = scope

-- with another token for the name of a Variable, where the name stands for the Variable
abbrev pub with_value : NameTable → ℕ → Token → Scope → Scope
with_value table i x scope = if unwrap_or (get (are_shown table) i) false then renamed (get table.variables i) x scope else scope

-- What an Expression keeps: the names and types of its inputs in the order of its places, the parameters in scope, and a tree.
use Rattle.std.specs.Prelude.{◌≡◌, ℕ, List, [], ◌∷◌, drop, map, Bool, true, false, ◌||◌, ◌&&◌, Option, Some, None, option_map, refl, if◌then◌else◌}
use Rattle.std.specs.Str.{bytes_eq}
use Rattle.std.specs.Coded.{Coded, code_by, coded_list, coded_ℕ, coded×}
use Rattle.pt_meaning.specs.Basics.{Streams}
use Rattle.pt_value.specs.Value.{Value}
use Rattle.pt_value.specs.Token.{value_of, coded_token}
use Rattle.pt_value.specs.declared.token.Token.{Token}
use Rattle.pt_datatypes.specs.Datatype.{Datatype}
use Rattle.pt_datatypes.specs.DatatypeCode.{coded_type}
use Rattle.pt_datatypes.specs.Order.{is_below}
use Rattle.pt_datatypes.specs.Token.{type_of_value}
use Rattle.pt_language.specs.Scope.{Scope}
use Rattle.pt_language.specs.Tree.{Tree}
use Rattle.pt_language.specs.Typing.{Typing, Has, Clash}
use Rattle.pt_language.specs.Types.{Types}
use Rattle.pt_language.specs.TreeType.{tree_type, are_bound}
use Rattle.pt_firing.specs.Params.{value_under}
use Rattle.pt_firing.specs.Row.{token_at}
use Rattle.pt_formula.specs.TreeCode.{coded_tree}

pub record Formula : Type 0 where
  pub inputs : List (List ℕ × Datatype)
  pub values : List (List ℕ × Token)
  pub tree : Tree

abbrev pub coded_formula : Coded Formula
coded_formula =
    code_by (List (List ℕ × Datatype) × (List (List ℕ × Token) × Tree)) (coded× (coded_list (coded× (coded_list coded_ℕ) coded_type)) (coded× (coded_list (coded× (coded_list coded_ℕ) coded_token)) coded_tree)) (λ f. (f.inputs, (f.values, f.tree)))
    (λ p. record { inputs = p.0; values = p.1.0; tree = p.1.1 }) (λ _. refl)

-- the names of inputs
abbrev pub names : List (List ℕ × Datatype) → List (List ℕ)
names inputs = map (λ input. input.0) inputs

-- ---- what the names stand for

-- the parameters under their names
abbrev pub parameters : List (List ℕ × Token) → Scope
parameters values name = option_map (λ token. Some (value_of token)) (value_under name values)

-- with a name bound to a value, or to none
abbrev pub with_name : List ℕ → Option Value → Scope → Scope
with_name name held scope other = if bytes_eq name other then Some held else scope other

-- with the names of the inputs bound, one after another, each to the first token of its place
abbrev pub with_inputs : List (List ℕ) → Streams Token → Scope → Scope
with_inputs [] X scope = scope
with_inputs (name ∷ names) X scope = with_inputs names (drop 1 X) (with_name name (option_map value_of (token_at X 0)) scope)

-- a name is among some
abbrev pub is_among : List ℕ → List (List ℕ) → Bool
is_among name [] = false
is_among name (n ∷ ns) = bytes_eq n name || is_among name ns

-- a scope has the parameters under all names but those of the inputs
abbrev pub HasParameters : List (List ℕ) → List (List ℕ × Token) → Scope → Type 0
HasParameters inputs values scope = (name : List ℕ) → is_among name inputs ≡ false → scope name ≡ parameters values name

-- ---- of which types that is

-- the types of the parameters: those of their tokens
abbrev pub parameter_types : List (List ℕ × Token) → Types
parameter_types values name = option_map (λ token. type_of_value (value_of token)) (value_under name values)

abbrev pub with_type : List ℕ → Datatype → Types → Types
with_type name t types other = if bytes_eq name other then Some t else types other

-- with the names of the inputs, one after another, each of its type
abbrev pub with_types : List (List ℕ × Datatype) → Types → Types
with_types [] types = types
with_types (input ∷ inputs) types = with_types inputs (with_type input.0 input.1 types)

-- the types of all names in its scope
abbrev pub types_of : Formula → Types
types_of f = with_types f.inputs (parameter_types f.values)

abbrev pub has_type : Typing Datatype → Bool
has_type (Has t) = true
has_type Clash = false

-- its tree has a type: each name in it is in scope, and there is no clash
abbrev pub is_typed : Formula → Bool
is_typed f = are_bound (types_of f) f.tree && has_type (tree_type (types_of f) f.tree)

-- there is a token, and it is of a type
abbrev pub is_of : Datatype → Option Token → Bool
is_of t None = false
is_of t (Some token) = is_below (type_of_value (value_of token)) t

-- each input has a token of its type
abbrev pub are_of : List (List ℕ × Datatype) → Streams Token → Bool
are_of [] X = true
are_of (input ∷ inputs) X = is_of input.1 (token_at X 0) && are_of inputs (drop 1 X)

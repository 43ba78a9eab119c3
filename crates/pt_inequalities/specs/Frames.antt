-- Which parameters are seen where, with the values that they have.
use Rattle.std.specs.Prelude.{ℕ, zero, suc, List, [], ◌∷◌, map, Option, Some, None, option_map, slice_get, bytes_eq, if◌then◌else◌}
use Rattle.pt_value.specs.Value.{Value}
use Rattle.std.specs.Prelude.{Vec}
use Rattle.std.specs.Global.{Global}
use Rattle.pt_value.specs.declared.token.Token.{Token}
use Rattle.pt_value.specs.Token.{value_of}
use Rattle.pt_document.specs.Document.{PropertyTree, property_name}
use Rattle.pt_datatypes.specs.Token.{type_of_value}
use Rattle.pt_language.specs.Types.{Types, or_else}
use Rattle.pt_net.specs.declared.net.NetEntity.{NetEntity}
use Rattle.pt_net.specs.declared.net.Transparent.{Transparent}
use Rattle.pt_net.specs.declared.net.Net.{Net}
use Rattle.pt_document.specs.View.{properties_view}
use Rattle.pt_scopes.specs.declared.parameter_value.ParameterValue.{ParameterValue}
use Rattle.pt_scopes.specs.Given as held
use Rattle.pt_scopes.specs.Given.{Held, held_view}
use Rattle.pt_scopes.specs.declared.values.EntityValues.{EntityValues}
use Rattle.pt_scopes.specs.declared.values.Values.{Values}

-- the values under names
abbrev pub Names : Type 0
Names = List ℕ → Option Value

-- the first of a list, and those behind it
abbrev pub first : {A : Type 0} → List A → Option A
first [] = None
first (x ∷ xs) = Some x

abbrev pub behind : {A : Type 0} → List A → List A
behind [] = []
behind (x ∷ xs) = xs

abbrev pub joined : {A : Type 0} → Option (Option A) → Option A
joined None = None
joined (Some o) = o

abbrev pub no_names : Names
no_names name = None

abbrev pub put : List ℕ → Value → Names → Names
put name v names other = if bytes_eq name other then Some v else names other

-- with the parameters that have values, each in place of one of its name before it
abbrev pub with_value : Names → List ℕ → Option Value → Names
with_value names name None = names
with_value names name (Some v) = put name v names

abbrev pub with_given : Names → List PropertyTree → List (Option Value) → Names
with_given names [] vs = names
with_given names (p ∷ ps) vs = with_given (with_value names (property_name p) (joined (first vs))) ps (behind vs)

-- the value of a parameter, where it is evaluated
abbrev pub value_held : Held → Option Value
value_held (held.Token v) = Some v
value_held (held.Read t) = None
value_held held.Word = None

-- an entity or a transparent composite: the composite round it, and the values of its parameters
pub record Frame : Type 0 where
  pub within : Option ℕ
  pub parent : Option ℕ
  pub values : Names

abbrev pub values_held : ParameterValue → Option Value
values_held v = value_held (held_view v)

abbrev pub some_value : Token → Option Value
some_value t = Some (value_of t)

abbrev pub given_of : Option EntityValues → List (Option Value)
given_of None = []
given_of (Some v) = map values_held v.parameters.items

abbrev pub entity_frame : NetEntity → Option EntityValues → Frame
entity_frame e v = record { within = e.within; parent = e.parent; values = with_given no_names (properties_view e.parameters.items) (given_of v) }

abbrev pub values_of_tokens : Option (Vec Token Global) → List (Option Value)
values_of_tokens None = []
values_of_tokens (Some ts) = map some_value ts.items

abbrev pub transparent_frame : Transparent → Option (Vec Token Global) → Frame
transparent_frame c ts = record { within = c.within; parent = c.parent; values = with_given no_names (properties_view c.parameters.items) (values_of_tokens ts) }

abbrev pub entity_frames : List NetEntity → List EntityValues → List Frame
entity_frames [] vs = []
entity_frames (e ∷ es) vs = entity_frame e (first vs) ∷ entity_frames es (behind vs)

abbrev pub transparent_frames : List Transparent → List (Vec Token Global) → List Frame
transparent_frames [] vs = []
transparent_frames (c ∷ cs) vs = transparent_frame c (first vs) ∷ transparent_frames cs (behind vs)

-- the value that the program holds for a parameter
abbrev pub held_of : Option ParameterValue → Option Value
held_of None = None
held_of (Some v) = values_held v

-- the entities and the transparent composites of a net
pub record Frames : Type 0 where
  pub entities : List Frame
  pub transparent : List Frame

abbrev pub frames_of : Net → Values → Frames
frames_of net values = record {
  entities = entity_frames net.entities.items values.entities.items;
  transparent = transparent_frames net.transparent.items values.transparent.items;
}

-- the innermost composite: the transparent one where there is one, and else the opaque one
abbrev pub innermost : Frames → Option ℕ → Option ℕ → Option Frame
innermost frames (Some t) parent = slice_get frames.transparent t
innermost frames None (Some k) = slice_get frames.entities k
innermost frames None None = None

-- the value under a name in this composite, or else in one further out
abbrev pub seen_from : (Option ℕ → Option ℕ → Names) → Option Frame → Names
seen_from outer None name = None
seen_from outer (Some f) name = or_else (f.values name) (outer f.within f.parent name)

-- the value under a name in the nearest composite that has it, out over so many composites at most
abbrev pub seen_within : ℕ → Frames → Option ℕ → Option ℕ → Names
seen_within zero frames within parent name = None
seen_within (suc n) frames within parent name = seen_from (seen_within n frames) (innermost frames within parent) name

-- what is seen there. The entities of a document nest at most 16 deep
abbrev pub seen : Frames → Option ℕ → Option ℕ → Names
seen frames within parent name = seen_within 16 frames within parent name

-- the types of what is seen
abbrev pub seen_types : Frames → Option ℕ → Option ℕ → Types
seen_types frames within parent name = option_map type_of_value (seen frames within parent name)

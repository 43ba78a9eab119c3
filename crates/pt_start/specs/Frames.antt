-- What the program keeps of the parameters of composites.
use Rattle.std.specs.Prelude.{◌≡◌, ℕ, List, [], ◌∷◌, map, IsTrue, Option, Some, None, option_map, slice_get, Vec}
use Rattle.std.specs.Global.{Global}
use Rattle.std.specs.List.{zip}
use Rattle.pt_value.specs.Token.{value_of}
use Rattle.pt_value.specs.declared.token.Token.{Token}
use Rattle.pt_document.specs.Document.{PropertyTree, property_name}
use Rattle.pt_document.specs.View.{properties_view}
use Rattle.pt_net.specs.declared.net.NetEntity.{NetEntity}
use Rattle.pt_net.specs.declared.net.Transparent.{Transparent}
use Rattle.pt_scopes.specs.declared.names.Names.{Names}
use Rattle.pt_scopes.specs.declared.parameter_value.ParameterValue.{ParameterValue}
use Rattle.pt_scopes.specs.declared.parameter_value.ParameterValue.TheVariants as parameter
use Rattle.pt_scopes.specs.Names.{held, or_else}
use Rattle.pt_scopes.specs.declared.values.EntityValues.{EntityValues}
use Rattle.pt_scopes.specs.Scopes.{Bindings, bound, is_composite_class}
use Rattle.pt_start.specs.Started.{given_tokens}

-- what is seen behind these parameters, in turn
abbrev pub behind : Bindings → List (List ℕ × Token) → Bindings
behind around [] = around
behind around (p ∷ ps) = behind ((p.0, Some (value_of p.1)) ∷ around) ps

-- a name with the token that it has, if it has one
abbrev pub with_token : List ℕ → Option Token → List (List ℕ × Token)
with_token name None = []
with_token name (Some t) = (name, t) ∷ []

-- the token of a parameter, if it has one
abbrev pub token_in : Option ParameterValue → Option Token
token_in (Some (parameter.Token t)) = Some t
token_in (Some (parameter.Tree e)) = None
token_in (Some parameter.Word) = None
token_in None = None

-- looked up before what is round them, the names are what is seen behind these parameters
abbrev pub Hold : Names → List (List ℕ × Token) → Type 0
Hold names ps = (around : Bindings) (name : List ℕ) → or_else (option_map Some (held names name)) (bound around name) ≡ bound (behind around ps) name

-- the parameters of a transparent composite by name
abbrev pub named_tokens : List PropertyTree → List Token → List (List ℕ × Token)
named_tokens ps ts = zip (map property_name ps) ts

-- what is kept of an entity: where it is a composite, its parameters
abbrev pub IsKept : Option NetEntity → Option EntityValues → Option Names → Type 0
IsKept (Some e) (Some v) (Some names) = IsTrue (is_composite_class e.class) → Hold names (given_tokens (properties_view e.parameters.items) v.parameters.items)
IsKept (Some e) (Some v) None = ⊥
IsKept (Some e) None names = Unit {0}
IsKept None v names = Unit {0}

abbrev pub AreKept : List NetEntity → List EntityValues → List Names → Type 0
AreKept es vs frames = (k : ℕ) → IsKept (slice_get es k) (slice_get vs k) (slice_get frames k)

-- the same of a transparent composite
abbrev pub IsTransparentKept : Option Transparent → Option (Vec Token Global) → Option Names → Type 0
IsTransparentKept (Some c) (Some ts) (Some names) = Hold names (named_tokens (properties_view c.parameters.items) ts.items)
IsTransparentKept (Some c) (Some ts) None = ⊥
IsTransparentKept (Some c) None names = Unit {0}
IsTransparentKept None ts names = Unit {0}

abbrev pub AreTransparentKept : List Transparent → List (Vec Token Global) → List Names → Type 0
AreTransparentKept cs ts frames = (t : ℕ) → IsTransparentKept (slice_get cs t) (slice_get ts t) (slice_get frames t)

-- The library actor of an entity of a net, at its start.
use Rattle.std.specs.Prelude.{◌≡◌, ℕ, List, [], ◌∷◌, ◌++◌, map, Bool, ◌&&◌, nat_eq, count_by, Option, Some, None, option_map, slice_get}
use Rattle.std.specs.List.{enumerate_from, filter_map}
use Rattle.pt_value.specs.Value.{Value}
use Rattle.pt_value.specs.Token.{token_of}
use Rattle.pt_value.specs.declared.token.Token.{Token}
use Rattle.pt_value.specs.declared.token.Token.TheVariants as token
use Rattle.pt_datatypes.specs.Datatype.{Datatype}
use Rattle.pt_language.specs.Tree.{Tree}
use Rattle.pt_language.specs.Expr.{tree_of}
use Rattle.pt_document.specs.Document.{PropertyTree, property_name, PortTree}
use Rattle.pt_net.specs.declared.net.Channel.{Channel}
use Rattle.pt_net.specs.declared.net.Net.{Net}
use Rattle.pt_net.specs.Net.{NetEntityTree, entity_view}
use Rattle.pt_scopes.specs.declared.parameter_value.ParameterValue.{ParameterValue}
use Rattle.pt_scopes.specs.declared.parameter_value.ParameterValue.TheVariants as parameter
use Rattle.pt_scopes.specs.Texts.{names_in}
use Rattle.pt_scopes.specs.declared.values.EntityValues.{EntityValues}
use Rattle.pt_scopes.specs.declared.values.Values.{Values}
use Rattle.pt_scopes.specs.Scopes.{Bindings, bound, net_view, text_of, Sees}
use Rattle.pt_flow_base.specs.declared.params.Params.{Params}
use Rattle.pt_library.specs.declared.library_actor.LibraryActor.{LibraryActor}
use Rattle.pt_library.specs.LibraryActor.{start}

-- ---- ports

-- the channel ends at this port of this entity
abbrev pub ends_at : ℕ → ℕ → Channel → Bool
ends_at entity port k = nat_eq k.to.entity entity && nat_eq k.to.port port

-- a port with how many of these channels end there
abbrev pub counted_port : List Channel → ℕ → ℕ × PortTree → List ℕ × ℕ
counted_port ks entity p = (p.1.name, count_by (ends_at entity p.0) ks)

-- the ports of an entity by name, each with how many channels end there
abbrev pub ports_of : List Channel → ℕ → NetEntityTree → List (List ℕ × ℕ)
ports_of ks entity e = map (counted_port ks entity) (enumerate_from 0 e.ports)

-- a type for each port, by the numbers of its entity and of the port there
abbrev pub PortTyping : Type 0
PortTyping = ℕ → ℕ → Datatype

-- a port with its type
abbrev pub typed_port : PortTyping → ℕ → ℕ × PortTree → List ℕ × Datatype
typed_port typing entity p = (p.1.name, typing entity p.0)

-- the types of the ports of an entity by name
abbrev pub types_of : PortTyping → ℕ → NetEntityTree → List (List ℕ × Datatype)
types_of typing entity e = map (typed_port typing entity) (enumerate_from 0 e.ports)

abbrev pub type_at : PortTyping → ℕ → ℕ × PortTree → Datatype
type_at typing entity p = typing entity p.0

-- these are the types of the ports of the entity of that number, in order
abbrev pub ArePortTypes : Net → PortTyping → ℕ → List Datatype → Type 0
ArePortTypes net typing k types = (e : NetEntityTree) → slice_get (map entity_view net.entities.items) k ≡ Some e → types ≡ map (type_at typing k) (enumerate_from 0 e.ports)

-- ---- parameters

-- the parameters that have tokens, by name
abbrev pub given_tokens : List PropertyTree → List ParameterValue → List (List ℕ × Token)
given_tokens [] vs = []
given_tokens (p ∷ ps) [] = []
given_tokens (p ∷ ps) (parameter.Token t ∷ vs) = (property_name p, t) ∷ given_tokens ps vs
given_tokens (p ∷ ps) (parameter.Tree e ∷ vs) = given_tokens ps vs
given_tokens (p ∷ ps) (parameter.Word ∷ vs) = given_tokens ps vs

-- the own parameters of an actor by name: those that have tokens, and as texts those that are taken as they are written
abbrev pub own_tokens : List PropertyTree → List ParameterValue → List (List ℕ × Token)
own_tokens [] vs = []
own_tokens (p ∷ ps) [] = []
own_tokens (p ∷ ps) (parameter.Token t ∷ vs) = (property_name p, t) ∷ own_tokens ps vs
own_tokens (p ∷ ps) (parameter.Tree e ∷ vs) = own_tokens ps vs
own_tokens (p ∷ ps) (parameter.Word ∷ vs) = (property_name p, token.Text (text_of p)) ∷ own_tokens ps vs

-- the tree of an expression, if there is one
abbrev pub given_tree : List ParameterValue → Option Tree
given_tree [] = None
given_tree (parameter.Tree e ∷ vs) = Some (tree_of e)
given_tree (parameter.Token t ∷ vs) = given_tree vs
given_tree (parameter.Word ∷ vs) = given_tree vs

abbrev pub token_under : List ℕ → Option (Option Value) → Option (List ℕ × Token)
token_under name (Some (Some v)) = Some (name, token_of v)
token_under name (Some None) = None
token_under name None = None

-- what a name stands for among the parameters that are seen
abbrev pub seen_token : Bindings → List ℕ → Option (List ℕ × Token)
seen_token seen name = token_under name (bound seen name)

-- the same of the names of a tree, in the order in which it has them
abbrev pub seen_tokens : Bindings → Option Tree → List (List ℕ × Token)
seen_tokens seen None = []
seen_tokens seen (Some t) = filter_map (seen_token seen) (names_in t)

-- ---- the start

-- the actor of an entity is started from this, where its parameters have these values and it sees these of the composites round
-- it: its class, its own parameters before those that its tree names, and its ports with their types
pub record IsFrom (ks : List Channel) (typing : PortTyping) (k : ℕ) (e : NetEntityTree) (vs : List ParameterValue) (seen : Bindings) (params : Params) : Type 0 where
  pub class_is : params.class ≡ e.class
  pub values_are : params.values ≡ own_tokens e.parameters vs ++ seen_tokens seen (given_tree vs)
  pub ports_are : params.ports ≡ ports_of ks k e
  pub types_are : params.types ≡ types_of typing k e
  pub tree_is : option_map tree_of params.tree ≡ given_tree vs

-- the entity of that number is no composite
pub record IsActor (net : Net) (k : ℕ) : Type 0 where
  pub entity : NetEntityTree
  pub at : slice_get (map entity_view net.entities.items) k ≡ Some entity
  pub undirected : entity.director ≡ None

-- the entity of that number is a library actor, which is started from this
pub record IsStartedFrom (net : Net) (values : Values) (typing : PortTyping) (k : ℕ) (params : Params) : Type 0 where
  pub entity : NetEntityTree
  pub at : slice_get (map entity_view net.entities.items) k ≡ Some entity
  pub undirected : entity.director ≡ None
  pub held : EntityValues
  pub held_at : slice_get values.entities.items k ≡ Some held
  pub seen : Bindings
  pub sees : Sees (net_view net) entity.within entity.parent seen
  pub from : IsFrom net.channels.items typing k entity held.parameters.items seen params

-- the actor of the entity of that number, at its start; none where its row has no start of that: the class isn't one of a
-- library, or it isn't used as its row has it
pub record IsStart (net : Net) (values : Values) (typing : PortTyping) (k : ℕ) (actor : Option LibraryActor) : Type 0 where
  pub params : Params
  pub started_from : IsStartedFrom net values typing k params
  pub is : start params ≡ actor

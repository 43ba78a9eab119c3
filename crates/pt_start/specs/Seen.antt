-- What is found under a name, outward from an entity.
use Rattle.std.specs.Prelude.{◌≡◌, ℕ, ◌+◌, ◌*◌, ◌<◌, List, ◌++◌, length, map, Option, Some, None, option_map, slice_get}
use Rattle.std.specs.List.{enumerate_from}
use Rattle.pt_datatypes.specs.Datatype.{Datatype}
use Rattle.pt_value.specs.declared.token.Token.{Token}
use Rattle.pt_value.specs.Token.{value_of}
use Rattle.pt_language.specs.Expr.{tree_of}
use Rattle.pt_document.specs.View.{properties_view, port_view}
use Rattle.pt_net.specs.declared.net.NetEntity.{NetEntity}
use Rattle.pt_scopes.specs.declared.names.Names.{Names}
use Rattle.pt_scopes.specs.Names.{held, or_else}
use Rattle.pt_scopes.specs.declared.values.EntityValues.{EntityValues}
use Rattle.pt_scopes.specs.Scopes.{NetTree, Bindings, bound, net_view, Sees}
use Rattle.pt_scopes.specs.Valued.{IsValued}
use Rattle.pt_start.specs.declared.round.Round.{Round}
use Rattle.pt_start.specs.declared.starts.Starts.{Starts}
use Rattle.pt_start.specs.Nested.{AreRound, IsNested}
use Rattle.pt_flow_base.specs.declared.params.Params.{Params}
use Rattle.pt_start.specs.Started.{own_tokens, given_tree, seen_tokens}
use Rattle.pt_start.specs.Frames.{AreKept, AreTransparentKept}
use Rattle.pt_start.specs.Counts.{AreCounts, AreSized, port_with}
use Rattle.pt_start.specs.PortTypes.{named_types}

-- what is kept is that of its net and its values
pub record IsPrepared (s : Starts) : Type 0 where
  pub opaque : AreKept s.net.now.entities.items s.values.now.entities.items s.opaque.items
  pub transparent : AreTransparentKept s.net.now.transparent.items s.values.now.transparent.items s.transparent.items
  pub counts : AreCounts s.net.now.channels.items s.counts.items
  pub sized : AreSized s.net.now.entities.items s.counts.items

-- what is kept, of a net whose composites stand in one another as they have to, and whose texts come to these values
pub record IsReady (s : Starts) : Type 0 where
  pub prepared : IsPrepared s
  pub nested : IsNested (net_view s.net.now)
  pub valued : IsValued (net_view s.net.now) s.values.now

-- the entity of that number has no tree among its values
abbrev pub IsTreeless : Starts → ℕ → Type 0
IsTreeless s k = (vs : EntityValues) → slice_get s.values.now.entities.items k ≡ Some vs → given_tree vs.parameters.items ≡ None

abbrev pub number_or_none : Option ℕ → ℕ
number_or_none None = 0
number_or_none (Some k) = k + 1

-- it falls on each way out
abbrev pub depth : NetTree → Round → ℕ
depth net r = number_or_none r.parent * (length net.transparent + 1) + number_or_none r.within

abbrev pub SeesIn : NetTree → Round → Bindings → Type 0
SeesIn net r seen = Sees net r.within r.parent seen

-- what is seen in here is what these names have, before what is seen out there
pub record IsBefore (net : NetTree) (names : Names) (out : Round) (seen : Bindings) : Type 0 where
  pub around : Bindings
  pub sees : SeesIn net out around
  pub is : (name : List ℕ) → or_else (option_map Some (held names name)) (bound around name) ≡ bound seen name

-- from in here one comes out there, by the composite with these names
pub record IsOutward (net : NetTree) (here : Round) (names : Names) (out : Round) : Type 0 where
  pub round : AreRound net out.within out.parent
  pub falls : depth net out < depth net here
  pub before : (seen : Bindings) → SeesIn net here seen → IsBefore net names out seen

-- nothing is seen in here
abbrev pub SeesNothing : NetTree → Round → Type 0
SeesNothing net here = (seen : Bindings) → SeesIn net here seen → (name : List ℕ) → bound seen name ≡ None

-- what is found is what is bound in all that may be seen in here
abbrev pub IsFound : NetTree → Round → List ℕ → Option Token → Type 0
IsFound net here name found = (seen : Bindings) → SeesIn net here seen → option_map (λ t. Some (value_of t)) found ≡ bound seen name

-- what is round an entity
abbrev pub round_of : NetEntity → Round
round_of e = record { within = e.within; parent = e.parent }

-- the actor of this entity is started from this, where its parameters have these values and these are its numbers of channels
-- and the types of its ports
pub record IsMade (net : NetTree) (e : NetEntity) (vs : EntityValues) (counts : List ℕ) (types : List Datatype) (params : Params) : Type 0 where
  pub class_is : params.class ≡ e.class
  pub values_are : (seen : Bindings) → SeesIn net (round_of e) seen → params.values ≡ own_tokens (properties_view e.parameters.items) vs.parameters.items ++ seen_tokens seen (given_tree vs.parameters.items)
  pub ports_are : params.ports ≡ map (port_with counts) (enumerate_from 0 (map port_view e.ports.items))
  pub types_are : params.types ≡ named_types (map port_view e.ports.items) types
  pub tree_is : option_map tree_of params.tree ≡ given_tree vs.parameters.items

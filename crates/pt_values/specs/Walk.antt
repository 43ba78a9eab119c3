-- How far the program has gone through a net.
use Rattle.std.specs.Prelude.{◌≡◌, ℕ, List, ◌∷◌, map, length, take, Option, Some, None, slice_get}
use Rattle.std.specs.List.{AllZip}
use Rattle.pt_value.specs.Value.{Value}
use Rattle.pt_document.specs.declared.refusal.DocFault.{DocFault}
use Rattle.pt_net.specs.Net.{NetEntityTree, TransparentTree}
use Rattle.pt_scopes.specs.declared.scopes.Scopes.{Scopes}
use Rattle.pt_scopes.specs.declared.scopes.Inside.{Inside}
use Rattle.pt_scopes.specs.declared.values.EntityValues.{EntityValues}
use Rattle.pt_values.specs.declared.walk.Walk.{Walk}
use Rattle.pt_scopes.specs.Scopes.{NetTree, Bindings}
use Rattle.pt_scopes.specs.Frames.{chain_at, Means, AreScopes}
use Rattle.pt_scopes.specs.Valued.{EntityView, entity_view, transparent_values, IsEntityValued, IsTransparentValued}
use Rattle.pt_scopes.specs.Told.{IsToldAt, IsFaultInTurn, IsTurn, IsEntityIn, IsFaultWhere}

-- so many entities and transparent composites are gone through, the first ones of their lists
pub record IsWalk (net : NetTree) (w : Walk) : Type 0 where
  pub scopes : AreScopes net w.scopes
  pub opaque_count : length w.scopes.opaque.items ≡ length w.entities.items
  pub transparent_count : length w.scopes.transparent.items ≡ length w.transparent.items
  pub entities : AllZip (IsEntityValued net) (take (length w.entities.items) net.entities) (map entity_view w.entities.items)
  pub transparent : AllZip (IsTransparentValued net) (take (length w.transparent.items) net.transparent) (transparent_values w.transparent.items)

-- there is no next entity, or what stands round it isn't gone through
abbrev pub IsHeldUp : NetTree → Walk → Type 0
IsHeldUp net w = (e : NetEntityTree) → slice_get net.entities (length w.entities.items) ≡ Some e → chain_at w.scopes e.within e.parent ≡ None

-- ---- steps

-- an entity comes to this, and this is seen in it
pub record IsInside (s : Scopes) (e : NetEntityTree) (inside : Inside) (v : EntityView) : Type 0 where
  pub chain : List ℕ
  pub seen : chain_at s e.within e.parent ≡ Some chain
  pub chained : inside.chain.items ≡ length s.frames.items ∷ chain
  pub values : (around : Bindings) → Means s.frames.items chain around → IsEntityIn around s.frames.items chain e inside.own v

-- the same, or what stands round the entity isn't gone through
abbrev pub IsFound : Scopes → NetEntityTree → Option (Inside × EntityValues) → Type 0
IsFound s e None = chain_at s e.within e.parent ≡ None
IsFound s e (Some found) = IsInside s e found.0 (entity_view found.1)

-- what stands round an entity is gone through, and a fault is one of each net in which this is seen there
pub record IsFaultFrom (s : Scopes) (e : NetEntityTree) (told : DocFault) : Type 0 where
  pub chain : List ℕ
  pub seen : chain_at s e.within e.parent ≡ Some chain
  pub fault : IsFaultWhere s.frames.items chain e told

-- the parameters of a transparent composite come to this, and this is seen in it
pub record IsTransparentInside (s : Scopes) (c : TransparentTree) (inside : Inside) (vs : List Value) : Type 0 where
  pub chain : List ℕ
  pub seen : chain_at s c.within c.parent ≡ Some chain
  pub chained : inside.chain.items ≡ length s.frames.items ∷ chain
  pub values : (around : Bindings) → Means s.frames.items chain around → IsTurn around c.parameters s.frames.items chain inside.own vs

-- what stands round a transparent composite is gone through, and one of its parameters is at fault where this is seen there
pub record IsTransparentFault (s : Scopes) (c : TransparentTree) (told : DocFault) : Type 0 where
  pub chain : List ℕ
  pub seen : chain_at s c.within c.parent ≡ Some chain
  pub fault : (around : Bindings) → Means s.frames.items chain around → IsToldAt c.path (IsFaultInTurn around c.parameters) told

-- Which parameters an expression sees.
use Rattle.std.specs.Prelude.{◌≡◌, ℕ, List, [], ◌∷◌, map, Bool, ◌||◌, Option, Some, None, unwrap_or, bytes_eq, codes, if◌then◌else◌, slice_get}
use Rattle.pt_value.specs.Value.{Value}
use Rattle.pt_document.specs.Document.{PropertyTree, property_name, property_value, InputTree}
use Rattle.pt_document.specs.View.{input_view}
use Rattle.pt_language.specs.Scope.{Scope}
use Rattle.pt_net.specs.declared.net.Net.{Net}
use Rattle.pt_net.specs.Net.{NetEntityTree, TransparentTree, entity_view, transparent_view}
use Rattle.pt_scopes.specs.Texts.{HasValue}

-- a net, without where it lies in memory
pub record NetTree : Type 0 where
  pub entities : List NetEntityTree
  pub transparent : List TransparentTree
  pub inputs : List InputTree

abbrev pub net_view : Net → NetTree
net_view net = record { entities = map entity_view net.entities.items; transparent = map transparent_view net.transparent.items; inputs = map input_view net.inputs.items }

-- parameters by their names, the nearest first, each with its value or with none where it is at fault
abbrev pub Bindings : Type 0
Bindings = List (List ℕ × Option Value)

-- what is bound under a name, by the nearest of that name
abbrev pub bound : Bindings → Scope
bound [] name = None
bound (b ∷ bs) name = if bytes_eq b.0 name then Some b.1 else bound bs name

-- the text of a property; every property of a job that is evaluated has one
abbrev pub text_of : PropertyTree → List ℕ
text_of p = unwrap_or (property_value p) []

-- what a text comes to, or that it comes to nothing
abbrev pub ComesTo : Scope → List ℕ → Option Value → Type 0
ComesTo scope text (Some v) = HasValue scope text v
ComesTo scope text None = (v : Value) → HasValue scope text v → ⊥

-- from what is seen round a composite on: what is seen behind these parameters of it, each of which sees those before
abbrev pub Extends : Bindings → List PropertyTree → Bindings → Type 0
Extends around [] inner = inner ≡ around
Extends around (p ∷ ps) inner = (entry : Option Value) × ComesTo (bound around) (text_of p) entry × Extends ((property_name p, entry) ∷ around) ps inner

-- a composite has parameters that its children see; those of an actor are its class's
abbrev pub is_composite_class : List ℕ → Bool
is_composite_class class = bytes_eq class (codes "Composite") || bytes_eq class (codes "Modal")

-- the parameters of an entity that are seen in it
abbrev pub seen_parameters : NetEntityTree → List PropertyTree
seen_parameters e = if is_composite_class e.class then e.parameters else []

-- what is seen in composites: where the innermost one is transparent its number is given, and else that of the innermost
-- opaque one; at the top nothing is
pub data Sees (net : NetTree) : Option ℕ → Option ℕ → Bindings → Type 0 where
  at_top : Sees net None None []
  in_transparent : (t : ℕ) (c : TransparentTree) (parent : Option ℕ) (around inner : Bindings) → slice_get net.transparent t ≡ Some c → Sees net c.within c.parent around → Extends around c.parameters inner → Sees net (Some t) parent inner
  in_opaque : (k : ℕ) (e : NetEntityTree) (around inner : Bindings) → slice_get net.entities k ≡ Some e → Sees net e.within e.parent around → Extends around (seen_parameters e) inner → Sees net None (Some k) inner

-- from what is seen round a composite on: what this one of its parameters sees
pub data IsSeenBy (q : PropertyTree) (seen : Bindings) : Bindings → List PropertyTree → Type 0 where
  here : (ps : List PropertyTree) → IsSeenBy q seen seen (q ∷ ps)
  later : (around : Bindings) (p : PropertyTree) (ps : List PropertyTree) (entry : Option Value) → ComesTo (bound around) (text_of p) entry → IsSeenBy q seen ((property_name p, entry) ∷ around) ps → IsSeenBy q seen around (p ∷ ps)

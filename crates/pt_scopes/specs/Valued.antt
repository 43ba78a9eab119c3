-- What the texts of a net come to, and where one is refused.
use Rattle.std.specs.Prelude.{◌≡◌, ℕ, List, [], ◌∷◌, map, Bool, true, false, IsTrue, Option, Some, None, option_map, Vec}
use Rattle.std.specs.Global.{Global}
use Rattle.std.specs.List.{Contains, AllZip}
use Rattle.pt_value.specs.declared.token.Token.{Token as HeldToken}
use Rattle.pt_value.specs.Value.{Value}
use Rattle.pt_value.specs.Token.{value_of}
use Rattle.pt_language.specs.Scope.{Scope}
use Rattle.pt_document.specs.declared.code.Code.{Code}
use Rattle.pt_document.specs.declared.code.Code.TheVariants as code
use Rattle.pt_document.specs.declared.refusal.DocFault.{DocFault}
use Rattle.pt_document.specs.declared.refusal.DocFault.TheVariants as faults
use Rattle.pt_document.specs.Document.{PropertyTree, property_name, PortTree, InputTree}
use Rattle.pt_net.specs.Net.{NetEntityTree, TransparentTree, DirectorTree}
use Rattle.pt_scopes.specs.declared.tables.TheConstants.{RATE}
use Rattle.pt_scopes.specs.declared.values.EntityValues.{EntityValues}
use Rattle.pt_scopes.specs.declared.values.Values.{Values}
use Rattle.pt_scopes.specs.Forms.{fits}
use Rattle.pt_scopes.specs.Texts.{HasValue}
use Rattle.pt_scopes.specs.Scopes.{NetTree, Bindings, bound, text_of, is_composite_class, seen_parameters, Sees, Extends}
use Rattle.pt_scopes.specs.Given.{Held, Token, held_view, names_port}
use Rattle.pt_scopes.specs.Sites.{rate_of, inputs_of, texts_of_supply, Site, HasSite, IsFaultAt}
use Rattle.pt_scopes.specs.ClassParameters.{AreParametersOf, AreApart}

-- ---- what the program holds

pub record EntityView : Type 0 where
  pub parameters : List Held
  pub director : List Held
  pub variables : List Value
  pub rates : List (Option Value)

abbrev pub entity_view : EntityValues → EntityView
entity_view e = record { parameters = map held_view e.parameters.items; director = map held_view e.director.items; variables = map value_of e.variables.items; rates = map (option_map value_of) e.rates.items }

-- ---- parameters

-- parameters of a composite in turn, each seeing those before it, up to what is seen behind them
abbrev pub AreInTurn : Bindings → List PropertyTree → List Value → Bindings → Type 0
AreInTurn around [] [] inner = inner ≡ around
AreInTurn around [] (v ∷ vs) inner = ⊥
AreInTurn around (p ∷ ps) [] inner = ⊥
AreInTurn around (p ∷ ps) (v ∷ vs) inner = HasValue (bound around) (text_of p) v × AreInTurn ((property_name p, Some v) ∷ around) ps vs inner

-- the parameters of an entity, up to what is seen in it
abbrev pub AreOwn : Bool → NetEntityTree → Bindings → List Held → Bindings → Type 0
AreOwn true e around hs inner = (vs : List Value) × (hs ≡ map Token vs) × AreInTurn around e.parameters vs inner
AreOwn false e around hs inner = (inner ≡ around) × AreParametersOf (names_port (inputs_of e)) (bound around) None e.class e.parameters hs

-- the parameters of a director
abbrev pub AreOfDirector : Option ℕ → Option DirectorTree → Scope → List Held → Type 0
AreOfDirector parent None scope hs = hs ≡ []
AreOfDirector parent (Some d) scope hs = AreParametersOf (names_port []) scope parent d.class d.parameters hs

abbrev pub IsVariable : Scope → PropertyTree → Value → Type 0
IsVariable scope p v = HasValue scope (text_of p) v

abbrev pub IsRateIn : Option (List ℕ) → Option Value → Type 0
IsRateIn None None = Unit {0}
IsRateIn None (Some v) = ⊥
IsRateIn (Some text) None = ⊥
IsRateIn (Some text) (Some v) = HasValue (bound []) text v × IsTrue (fits RATE v)

-- the rate of a port
abbrev pub IsRate : PortTree → Option Value → Type 0
IsRate p v = IsRateIn (rate_of p) v

-- ---- the whole net

pub record IsEntityValued (net : NetTree) (e : NetEntityTree) (v : EntityView) : Type 0 where
  pub around : Bindings
  pub sees : Sees net e.within e.parent around
  pub inner : Bindings
  pub parameters : AreOwn (is_composite_class e.class) e around v.parameters inner
  pub director : AreOfDirector e.parent e.director (bound inner) v.director
  pub variables : AllZip (IsVariable (bound inner)) e.variables v.variables
  pub rates : AllZip IsRate e.ports v.rates

pub record IsTransparentValued (net : NetTree) (c : TransparentTree) (vs : List Value) : Type 0 where
  pub around : Bindings
  pub sees : Sees net c.within c.parent around
  pub inner : Bindings
  pub parameters : AreInTurn around c.parameters vs inner

-- what comes to an input: a token for each text, and none where a token is absent
abbrev pub IsSupplied : Option (List ℕ) → Option Value → Type 0
IsSupplied None None = Unit {0}
IsSupplied None (Some v) = ⊥
IsSupplied (Some text) None = ⊥
IsSupplied (Some text) (Some v) = HasValue (bound []) text v

abbrev pub IsInputValued : InputTree → List (Option Value) → Type 0
IsInputValued i vs = AllZip IsSupplied (texts_of_supply i.supply) vs

abbrev pub transparent_values : List (Vec HeldToken Global) → List (List Value)
transparent_values vs = map (λ ts. map value_of ts.items) vs

abbrev pub inputs_view : Values → List (List (Option Value))
inputs_view values = map (λ ts. map (option_map value_of) ts.items) values.inputs.items

-- what the texts of a net come to
pub record IsValued (net : NetTree) (values : Values) : Type 0 where
  pub entities : AllZip (IsEntityValued net) net.entities (map entity_view values.entities.items)
  pub transparent : AllZip (IsTransparentValued net) net.transparent (transparent_values values.transparent.items)
  pub inputs : AllZip IsInputValued net.inputs (inputs_view values)

-- ---- faults

-- the parameters of an entity or of its director have their forms and don't agree, at this path
pub data IsDisagreement (net : NetTree) : List ℕ → Type 0 where
  of_actor : (e : NetEntityTree) (around : Bindings) → Contains net.entities e → is_composite_class e.class ≡ false → Sees net e.within e.parent around → AreApart (names_port (inputs_of e)) (bound around) None e.class e.parameters → IsDisagreement net e.path
  of_director : (e : NetEntityTree) (d : DirectorTree) (around inner : Bindings) → Contains net.entities e → e.director ≡ Some d → Sees net e.within e.parent around → Extends around (seen_parameters e) inner → AreApart (names_port []) (bound inner) e.parent d.class d.parameters → IsDisagreement net e.path

-- this cause to refuse, among those of values, stands at that path of a net
pub data Stands (net : NetTree) : Code → List ℕ → Type 0 where
  in_text : (s : Site) (cause : Code) → HasSite net s → IsFaultAt s cause → Stands net cause s.path
  in_parameters : (path : List ℕ) → IsDisagreement net path → Stands net code.Value path

-- a fault is want of memory, or a refusal that stands
abbrev pub IsFaultOf : NetTree → DocFault → Type 0
IsFaultOf net faults.Memory = Unit {0}
IsFaultOf net (faults.Refused r) = Stands net r.code r.path

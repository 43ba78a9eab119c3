-- What is told of the texts of a net.
use Rattle.std.specs.Prelude.{◌≡◌, ℕ, List, [], Option, Some, None, option_map}
use Rattle.std.specs.List.{Contains, AllZip}
use Rattle.pt_value.specs.Value.{Value}
use Rattle.pt_language.specs.Scope.{Scope}
use Rattle.pt_document.specs.declared.code.Code.{Code}
use Rattle.pt_document.specs.declared.refusal.DocFault.{DocFault}
use Rattle.pt_document.specs.declared.refusal.DocFault.TheVariants as faults
use Rattle.pt_document.specs.Document.{PropertyTree, PortTree}
use Rattle.pt_document.specs.Outcome.{IsRefusal}
use Rattle.pt_net.specs.Net.{NetEntityTree, TransparentTree, DirectorTree}
use Rattle.pt_scopes.specs.declared.fault.TextFault.{TextFault}
use Rattle.pt_scopes.specs.declared.fault.TextFault.TheVariants as text
use Rattle.pt_scopes.specs.declared.names.Names.{Names}
use Rattle.pt_scopes.specs.declared.tables.TheConstants.{RATE}
use Rattle.pt_scopes.specs.Given.{Held, names_port, IsValueFault}
use Rattle.pt_scopes.specs.Names.{held, or_else, in_chain}
use Rattle.pt_scopes.specs.Texts.{IsTextFault}
use Rattle.pt_scopes.specs.Scopes.{NetTree, Bindings, bound, text_of, is_composite_class, Sees, IsSeenBy}
use Rattle.pt_scopes.specs.Frames.{Means}
use Rattle.pt_scopes.specs.Sites.{rate_of}
use Rattle.pt_scopes.specs.Valued.{EntityView, AreInTurn, AreOwn, AreOfDirector, IsVariable, IsRate, IsFaultOf}
use Rattle.pt_scopes.specs.ClassParameters.{IsClassFault}

-- the fault of a text, told at this path
abbrev pub IsToldAs : List ℕ → TextFault → DocFault → Type 0
IsToldAs path (text.Refused cause) told = IsRefusal told cause path
IsToldAs path text.Memory told = told ≡ faults.Memory

-- a fault is want of memory, or a refusal at this path for a cause that stands
abbrev pub IsToldAt : List ℕ → (Code → Type 0) → DocFault → Type 0
IsToldAt path Stands faults.Memory = Unit {0}
IsToldAt path Stands (faults.Refused r) = (r.path ≡ path) × Stands r.code

-- names of one composite before those of a chain of composites hold what these bindings say
abbrev pub MeansWith : Names → List Names → List ℕ → Bindings → Type 0
MeansWith own frames chain inner = (name : List ℕ) → option_map Some (or_else (held own name) (in_chain frames chain name)) ≡ bound inner name

-- parameters in turn came to these values, and the names hold them
pub record IsTurn (around : Bindings) (ps : List PropertyTree) (frames : List Names) (chain : List ℕ) (own : Names) (vs : List Value) : Type 0 where
  pub inner : Bindings
  pub in_turn : AreInTurn around ps vs inner
  pub means : MeansWith own frames chain inner

-- one of these parameters is at fault for this cause
pub record IsFaultInTurn (around : Bindings) (ps : List PropertyTree) (cause : Code) : Type 0 where
  pub property : PropertyTree
  pub seen : Bindings
  pub seen_by : IsSeenBy property seen around ps
  pub fault : IsTextFault (bound seen) (text_of property) cause

-- the first value of one of these Variables is at fault for this cause
pub record IsVariableFault (scope : Scope) (ps : List PropertyTree) (cause : Code) : Type 0 where
  pub property : PropertyTree
  pub there : Contains ps property
  pub fault : IsTextFault scope (text_of property) cause

-- ---- an entity

-- what is seen in a chain of composites
abbrev pub chain_scope : List Names → List ℕ → Scope
chain_scope frames chain name = option_map Some (in_chain frames chain name)

-- an entity has these parameters, and the names hold what is seen of them in it
pub record IsOwn (around : Bindings) (frames : List Names) (chain : List ℕ) (e : NetEntityTree) (own : Names) (hs : List Held) : Type 0 where
  pub inner : Bindings
  pub parameters : AreOwn (is_composite_class e.class) e around hs inner
  pub means : MeansWith own frames chain inner

-- where this is seen in an entity, what stands there beside its parameters comes to this
pub record IsRest (scope : Scope) (e : NetEntityTree) (v : EntityView) : Type 0 where
  pub director : AreOfDirector e.parent e.director scope v.director
  pub variables : AllZip (IsVariable scope) e.variables v.variables
  pub rates : AllZip IsRate e.ports v.rates

-- an entity has what is told of it, and the names hold what is seen in it
pub record IsEntityIn (around : Bindings) (frames : List Names) (chain : List ℕ) (e : NetEntityTree) (own : Names) (v : EntityView) : Type 0 where
  pub inner : Bindings
  pub parameters : AreOwn (is_composite_class e.class) e around v.parameters inner
  pub rest : IsRest (bound inner) e v
  pub means : MeansWith own frames chain inner

-- at what the parameters of a director are at fault
abbrev pub IsDirectorFault : Option ℕ → Option DirectorTree → Scope → Code → Type 0
IsDirectorFault parent None scope cause = ⊥
IsDirectorFault parent (Some d) scope cause = IsClassFault (names_port []) scope parent d.class d.parameters cause

-- the rate of one of these ports is at fault for this cause
pub record IsRateFault (ports : List PortTree) (cause : Code) : Type 0 where
  pub port : PortTree
  pub there : Contains ports port
  pub text : List ℕ
  pub declared : rate_of port ≡ Some text
  pub fault : IsValueFault (bound []) RATE text cause

-- wherever an entity stands in a net, and these frames hold what is seen round it, a fault is one of the net
abbrev pub IsFaultWhere : List Names → List ℕ → NetEntityTree → DocFault → Type 0
IsFaultWhere frames chain e fault = (net : NetTree) (around : Bindings) → Contains net.entities e → Sees net e.within e.parent around → Means frames chain around → IsFaultOf net fault

-- ---- an input

-- a text of what comes to an input is at fault for this cause
pub record IsSupplyFault (texts : List (Option (List ℕ))) (cause : Code) : Type 0 where
  pub text : List ℕ
  pub there : Contains texts (Some text)
  pub fault : IsTextFault (bound []) text cause

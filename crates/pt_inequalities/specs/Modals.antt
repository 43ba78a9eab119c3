-- The inequalities that Modal entities make.
use Rattle.std.specs.Prelude.{◌≡◌, ◌<◌, ℕ, suc, List, [], ◌∷◌, ◌++◌, map, Option, Some, None, codes, if◌then◌else◌, slice_get}
use Rattle.std.specs.List.{Contains, AllZip}
use Rattle.pt_document.specs.declared.job.Direction.{Direction}
use Rattle.pt_document.specs.declared.job.Direction.TheVariants.{Input, Output}
use Rattle.pt_document.specs.declared.job.OutputAction.{OutputAction}
use Rattle.pt_document.specs.declared.job.SetAction.{SetAction}
use Rattle.pt_document.specs.Document.{PortTree, TransitionTree}
use Rattle.pt_language.specs.Tree.{Tree}
use Rattle.pt_net.specs.Net.{NetEntityTree}
use Rattle.pt_scopes.specs.Texts.{IsRead}
use Rattle.pt_scopes.specs.Valued.{EntityView}
use Rattle.pt_typing.specs.declared.variable.Variable.{Variable}
use Rattle.pt_typing.specs.declared.variable.Variable.TheVariants.{Port}
use Rattle.pt_typing.specs.Terms.{Same}
use Rattle.pt_typing.specs.Views.{Inequality}
use Rattle.pt_inequalities.specs.Frames.{Frames}
use Rattle.pt_inequalities.specs.Inequalities.{PortNumbers, no_ports, below}
use Rattle.pt_inequalities.specs.ModalScopes.{is_modal, own_ports, ModalScope, modal_scope, modal_term, IsReadIn}

-- ---- refinements

-- what is at an input outside is below what is at the one within, and what is at an output within below what is outside
abbrev pub like : Direction → Variable → Variable → Inequality
like Input inner outer = below inner (Same outer)
like Output inner outer = below outer (Same inner)

abbrev pub of_like : ℕ → ℕ → ℕ → Direction → Option ℕ → List Inequality
of_like m k j d None = []
of_like m k j d (Some i) = like d (Port k j) (Port m i) ∷ []

-- those of the ports of a refinement, from this number on
abbrev pub of_refinement : PortNumbers → ℕ → ℕ → ℕ → List PortTree → List Inequality
of_refinement ports m k j [] = []
of_refinement ports m k j (p ∷ ps) = of_like m k j p.direction (ports p.name) ++ of_refinement ports m k (suc j) ps

-- the ports of an entity that refinements share
abbrev pub modal_ports : NetEntityTree → PortNumbers
modal_ports e = if is_modal e then own_ports e else no_ports

-- those of an entity that stands in the one of this number
abbrev pub of_round : Option PortNumbers → ℕ → ℕ → List PortTree → List Inequality
of_round None m k ps = []
of_round (Some ports) m k ps = of_refinement ports m k 0 ps

-- an entity in which no transparent composite stands round it, with the ports of the one round it
abbrev pub of_child : List PortNumbers → ℕ → List PortTree → Option ℕ → Option ℕ → List Inequality
of_child tables k ps (Some t) parent = []
of_child tables k ps None None = []
of_child tables k ps None (Some m) = of_round (slice_get tables m) m k ps

-- those of the entities from this number on
abbrev pub of_children : List PortNumbers → ℕ → List NetEntityTree → List Inequality
of_children tables k [] = []
of_children tables k (e ∷ es) = of_child tables k e.ports e.within e.parent ++ of_children tables (suc k) es

-- those of the refinements of a net
abbrev pub refined : List NetEntityTree → List Inequality
refined es = of_children (map modal_ports es) 0 es

-- ---- what texts read as

-- the one tree that reads as a text, or none
abbrev pub IsParsedAs : List ℕ → Option Tree → Type 0
IsParsedAs text (Some t) = IsRead text t × ((other : Tree) → IsRead text other → other ≡ t)
IsParsedAs text None = (t : Tree) → IsRead text t → ⊥

-- the same where its names are in scope
abbrev pub IsReadAs : ModalScope → List ℕ → Option Tree → Type 0
IsReadAs s text (Some t) = IsReadIn s text t × ((other : Tree) → IsReadIn s text other → other ≡ t)
IsReadAs s text None = (t : Tree) → IsReadIn s text t → ⊥

-- the name of a port or of a Variable, with what the text of an action reads as
abbrev pub ActionTree : Type 0
ActionTree = List ℕ × Option Tree

pub record TransitionTrees : Type 0 where
  pub guard : Option Tree
  pub output : List ActionTree
  pub set : List ActionTree

abbrev pub IsOutputRead : ModalScope → OutputAction → ActionTree → Type 0
IsOutputRead s a x = (x.0 ≡ a.port) × IsReadAs s a.value x.1

abbrev pub IsSetRead : ModalScope → SetAction → ActionTree → Type 0
IsSetRead s a x = (x.0 ≡ a.name) × IsReadAs s a.value x.1

pub record IsTransitionRead (s : ModalScope) (t : TransitionTree) (x : TransitionTrees) : Type 0 where
  pub guard : IsReadAs s t.guard x.guard
  pub output : AllZip (IsOutputRead s) t.output x.output
  pub set : AllZip (IsSetRead s) t.set x.set

-- ---- actions

-- a Modal entity with what its texts read as
pub record Chart : Type 0 where
  pub scope : ModalScope
  pub transitions : List TransitionTrees

-- what an action gives is below the port of this number
abbrev pub of_action_at : ModalScope → Option ℕ → Option Tree → List Inequality
of_action_at s None t = []
of_action_at s (Some i) None = []
of_action_at s (Some i) (Some t) = below (Port s.number i) (modal_term s t) ∷ []

abbrev pub of_action : ModalScope → ActionTree → List Inequality
of_action s a = of_action_at s (s.ports a.0) a.1

abbrev pub of_actions : ModalScope → List ActionTree → List Inequality
of_actions s [] = []
of_actions s (a ∷ rest) = of_action s a ++ of_actions s rest

abbrev pub of_transitions : ModalScope → List TransitionTrees → List Inequality
of_transitions s [] = []
of_transitions s (t ∷ ts) = of_actions s t.output ++ of_transitions s ts

-- those of the output actions of Modal entities
abbrev pub of_charts : List Chart → List Inequality
of_charts [] = []
of_charts (c ∷ cs) = of_transitions c.scope c.transitions ++ of_charts cs

-- this is the chart of an entity of this number
pub record IsChartOf (frames : Frames) (m : ℕ) (e : NetEntityTree) (v : EntityView) (c : Chart) : Type 0 where
  pub scope : c.scope ≡ modal_scope frames m e v
  pub read : AllZip (IsTransitionRead (modal_scope frames m e v)) e.transitions c.transitions

-- a Modal entity among these
pub record IsModalAt (es : List NetEntityTree) (vs : List EntityView) (m : ℕ) (e : NetEntityTree) (v : EntityView) : Type 0 where
  pub at : slice_get es m ≡ Some e
  pub is_modal : e.class ≡ codes "Modal"
  pub values_at : slice_get vs m ≡ Some v

-- a chart of a Modal entity
pub record IsChartIn (frames : Frames) (es : List NetEntityTree) (vs : List EntityView) (c : Chart) : Type 0 where
  pub number : ℕ
  pub entity : NetEntityTree
  pub values : EntityView
  pub modal : IsModalAt es vs number entity values
  pub is : IsChartOf frames number entity values c

-- the chart of this entity is among these
pub record HasChart (frames : Frames) (m : ℕ) (e : NetEntityTree) (v : EntityView) (cs : List Chart) : Type 0 where
  pub chart : Chart
  pub there : Contains cs chart
  pub is : IsChartOf frames m e v chart

-- the charts of the Modal entities of these entities whose numbers are below this one
pub record AreCharts (frames : Frames) (es : List NetEntityTree) (vs : List EntityView) (n : ℕ) (cs : List Chart) : Type 0 where
  pub each : (c : Chart) → Contains cs c → IsChartIn frames es vs c
  pub whole : (m : ℕ) (e : NetEntityTree) (v : EntityView) → m < n → IsModalAt es vs m e v → HasChart frames m e v cs

-- one entity more: behind the charts that there were stands its own, where it is Modal
pub data IsChartAdded (frames : Frames) (m : ℕ) (e : NetEntityTree) (o : Option EntityView) (old new : List Chart) : Type 0 where
  kept : ((v : EntityView) → e.class ≡ codes "Modal" → o ≡ Some v → ⊥) → new ≡ old → IsChartAdded frames m e o old new
  added : (v : EntityView) (c : Chart) → e.class ≡ codes "Modal" → o ≡ Some v → IsChartOf frames m e v c → new ≡ old ++ c ∷ [] → IsChartAdded frames m e o old new

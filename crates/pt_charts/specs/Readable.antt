-- Where a guard or an action of a Modal entity is no expression over what it may name.
use Rattle.std.specs.Prelude.{◌≡◌, ◌⊎◌, ◌<◌, ℕ, List, [], ◌∷◌, ◌++◌, All, map, true, Option, Some, MatchOption, codes}
use Rattle.std.specs.List.{Contains, flat_map}
use Rattle.pt_document.specs.declared.code.Code.{Code}
use Rattle.pt_document.specs.declared.job.OutputAction.{OutputAction}
use Rattle.pt_document.specs.declared.job.SetAction.{SetAction}
use Rattle.pt_document.specs.Document.{TransitionTree}
use Rattle.pt_language.specs.Tree.{Tree}
use Rattle.pt_net.specs.declared.net.Net.{Net}
use Rattle.pt_net.specs.Net.{NetEntityTree}
use Rattle.pt_scopes.specs.Texts.{IsTreeFault}
use Rattle.pt_scopes.specs.declared.values.Values.{Values}
use Rattle.pt_scopes.specs.Valued.{EntityView}
use Rattle.pt_inequalities.specs.Frames.{Frames}
use Rattle.pt_inequalities.specs.ModalScopes.{ModalScope, modal_scope, is_in_scope, IsReadIn}
use Rattle.pt_inequalities.specs.Modals.{IsModalAt}
use Rattle.pt_inequalities.specs.Typing.{IsModal, scope_of}

-- ---- the texts of a Modal entity

abbrev pub output_text : OutputAction → List ℕ
output_text a = a.value

abbrev pub set_text : SetAction → List ℕ
set_text a = a.value

-- those of a transition: its guard, then what its output actions give, then what its set actions give
abbrev pub transition_texts : TransitionTree → List (List ℕ)
transition_texts t = t.guard ∷ (map output_text t.output ++ map set_text t.set)

-- those of some transitions, one after the other
abbrev pub texts_of : List TransitionTree → List (List ℕ)
texts_of ts = flat_map transition_texts ts

-- ---- one text

abbrev pub IsNamed : ModalScope → List ℕ → Type 0
IsNamed s name = is_in_scope s name ≡ true

-- a tree reads as the text, each of whose names is in scope
abbrev pub IsReadable : ModalScope → List ℕ → Type 0
IsReadable s text = (t : Tree) × IsReadIn s text t

-- the text is refused for this cause: it is too deep, no tree reads as it, or a name in it isn't in scope
abbrev pub IsUnreadable : ModalScope → List ℕ → Code → Type 0
IsUnreadable s text cause = IsTreeFault (IsNamed s) text cause

-- of these texts the first that isn't readable is refused for this cause
abbrev pub IsFirstUnreadable : ModalScope → List (List ℕ) → Code → Type 0
IsFirstUnreadable s [] cause = ⊥
IsFirstUnreadable s (text ∷ texts) cause = IsUnreadable s text cause ⊎ (IsReadable s text × IsFirstUnreadable s texts cause)

-- these texts are readable, or the first that isn't is refused for the cause that is found
abbrev pub IsFoundIn : ModalScope → List (List ℕ) → Option Code → Type 0
IsFoundIn s texts found = MatchOption found (All (IsReadable s) texts) (IsFirstUnreadable s texts)

-- ---- one entity

-- the texts of an entity are readable, where it is Modal and has values
abbrev pub IsEntityReadable : Frames → ℕ → NetEntityTree → Option EntityView → Type 0
IsEntityReadable frames m e o = (v : EntityView) → e.class ≡ codes "Modal" → o ≡ Some v → All (IsReadable (modal_scope frames m e v)) (texts_of e.transitions)

-- an entity is Modal, and the first of its texts that isn't readable is refused for this cause
pub record IsEntityUnreadable (frames : Frames) (m : ℕ) (e : NetEntityTree) (o : Option EntityView) (cause : Code) : Type 0 where
  pub values : EntityView
  pub is_modal : e.class ≡ codes "Modal"
  pub has_values : o ≡ Some values
  pub first : IsFirstUnreadable (modal_scope frames m e values) (texts_of e.transitions) cause

-- ---- some entities

-- the texts of the Modal entities whose numbers are below this one are readable
abbrev pub AreReadableBelow : Frames → List NetEntityTree → List EntityView → ℕ → Type 0
AreReadableBelow frames es vs n = (m : ℕ) (e : NetEntityTree) (v : EntityView) → m < n → IsModalAt es vs m e v → All (IsReadable (modal_scope frames m e v)) (texts_of e.transitions)

-- the entity of this number is the first Modal one with a text that isn't readable, and the first such text of it is refused for
-- this cause
pub record IsFirstOf (frames : Frames) (es : List NetEntityTree) (vs : List EntityView) (cause : Code) (m : ℕ) : Type 0 where
  pub entity : NetEntityTree
  pub values : EntityView
  pub modal : IsModalAt es vs m entity values
  pub before : AreReadableBelow frames es vs m
  pub first : IsFirstUnreadable (modal_scope frames m entity values) (texts_of entity.transitions) cause

-- ---- a net

-- the guards and the actions of a Modal entity of a net are readable
abbrev pub IsReadableAt : Net → Values → ℕ → NetEntityTree → EntityView → Type 0
IsReadableAt net values m e v = All (IsReadable (scope_of net values m e v)) (texts_of e.transitions)

-- those of all Modal entities are
abbrev pub AreReadable : Net → Values → Type 0
AreReadable net values = (m : ℕ) (e : NetEntityTree) (v : EntityView) → IsModal net values m e v → IsReadableAt net values m e v

-- A net is refused for this cause at the entity of this number, the first Modal one with a guard or an action that isn't readable.
-- It is the cause of the first of these
pub record IsUnreadableAt (net : Net) (values : Values) (cause : Code) (m : ℕ) : Type 0 where
  pub entity : NetEntityTree
  pub values_of : EntityView
  pub modal : IsModal net values m entity values_of
  pub before : (k : ℕ) (e : NetEntityTree) (v : EntityView) → k < m → IsModal net values k e v → IsReadableAt net values k e v
  pub first : IsFirstUnreadable (scope_of net values m entity values_of) (texts_of entity.transitions) cause

-- where guards and actions are readable, none of them is refused
abbrev pub ReadableTextsAreClean : Type 0
ReadableTextsAreClean =
    (net : Net) (values : Values) → AreReadable net values →
    (m : ℕ) (e : NetEntityTree) (v : EntityView) → IsModal net values m e v →
    (text : List ℕ) → Contains (texts_of e.transitions) text →
    (cause : Code) → IsUnreadable (scope_of net values m e v) text cause → ⊥

-- The machine of a Modal entity of a net: what pt_chart reads as its chart.
use Rattle.std.specs.Prelude.{◌≡◌, ℕ, ◌<◌, List, ◌∷◌, ◌++◌, length, map, Bool, true, false, ◌&&◌, nat_eq, Option, Some, None, slice_get, if◌then◌else◌}
use Rattle.std.specs.List.{AllZip, All, filter_map, flat_map, enumerate_from}
use Rattle.pt_value.specs.Value.{Value}
use Rattle.pt_value.specs.Token.{token_of}
use Rattle.pt_value.specs.declared.token.Token.{Token}
use Rattle.pt_language.specs.Tree.{Tree}
use Rattle.pt_document.specs.declared.job.State.{State}
use Rattle.pt_document.specs.declared.job.Direction.TheVariants.{Input, Output}
use Rattle.pt_document.specs.declared.job.OutputAction.{OutputAction}
use Rattle.pt_document.specs.declared.job.SetAction.{SetAction}
use Rattle.pt_document.specs.Document.{TransitionTree}
use Rattle.pt_net.specs.declared.net.Net.{Net}
use Rattle.pt_net.specs.Net.{NetEntityTree, entity_view}
use Rattle.pt_scopes.specs.Texts.{names_in}
use Rattle.pt_scopes.specs.Valued.{EntityView}
use Rattle.pt_scopes.specs.declared.values.Values.{Values}
use Rattle.pt_typing.specs.Least.{Assignment}
use Rattle.pt_inequalities.specs.Frames.{Names}
use Rattle.pt_inequalities.specs.ModalScopes.{is_modal, ModalScope, IsReadIn}
use Rattle.pt_inequalities.specs.Typing.{IsModal, scope_of}
use Rattle.pt_chart.specs.Machine as chart
use Rattle.pt_chart.specs.Machine.{Machine, ModeTree, PortMap}
use Rattle.pt_machine.specs.Numbers.{Numbers, number_of}
use Rattle.pt_machine.specs.Names.{state_names, names_along, variable_names, refinement_path, refinement_of, number_if}
use Rattle.pt_machine.specs.Typed.{typed_along, typed_variables}
use Rattle.pt_machine.specs.Children.{is_opaque, kids_in, is_parted}

-- ---- what may be named

abbrev pub token_under : List ℕ → Option Value → Option (List ℕ × Token)
token_under name None = None
token_under name (Some v) = Some (name, token_of v)

-- the token that is seen under a name
abbrev pub seen_token : Names → List ℕ → Option (List ℕ × Token)
seen_token around name = token_under name (around name)

-- the parameters that some trees name, in the order in which they name them
abbrev pub seen_tokens : Names → List Tree → List (List ℕ × Token)
seen_tokens around trees = filter_map (seen_token around) (flat_map names_in trees)

-- ---- transitions

-- a text reads as this tree, over what may be named
pub record IsAction (s : ModalScope) (numbers : Numbers) (name text : List ℕ) (a : chart.ActionTree) : Type 0 where
  pub target : numbers name ≡ Some a.target
  pub read : IsReadIn s text a.tree

abbrev pub IsOutput : ModalScope → NetEntityTree → OutputAction → chart.ActionTree → Type 0
IsOutput s e a x = IsAction s (number_of (names_along Output e.ports)) a.port a.value x

abbrev pub IsSet : ModalScope → NetEntityTree → SetAction → chart.ActionTree → Type 0
IsSet s e a x = IsAction s (number_of (variable_names e)) a.name a.value x

-- a transition, with the number of the state that it leaves, and whether it is preemptive
pub record Leaving : Type 0 where
  pub from : ℕ
  pub early : Bool
  pub made : chart.TransitionTree

pub record IsLeaving (s : ModalScope) (e : NetEntityTree) (t : TransitionTree) (x : Leaving) : Type 0 where
  pub from : number_of (state_names e) t.from ≡ Some x.from
  pub early : x.early ≡ t.preemptive
  pub guard : IsReadIn s t.guard x.made.guard
  pub outputs : AllZip (IsOutput s e) t.output x.made.outputs
  pub sets : AllZip (IsSet s e) t.set x.made.sets
  pub target : number_of (state_names e) t.to ≡ Some x.made.target
  pub history : x.made.history ≡ t.history

abbrev pub action_tree : chart.ActionTree → Tree
action_tree a = a.tree

-- its trees in the order of the document: the guard, then what output actions give, then what set actions give
abbrev pub trees_in : Leaving → List Tree
trees_in x = x.made.guard ∷ (map action_tree x.made.outputs ++ map action_tree x.made.sets)

abbrev pub trees_of : List Leaving → List Tree
trees_of xs = flat_map trees_in xs

-- ---- states

abbrev pub same : Bool → Bool → Bool
same true b = b
same false true = false
same false false = true

abbrev pub leaves : (early : Bool) (state : ℕ) → Leaving → Option chart.TransitionTree
leaves early state x = if nat_eq x.from state && same x.early early then Some x.made else None

-- the transitions of a kind that leave a state, in the order of the document
abbrev pub leaving : (early : Bool) (state : ℕ) → List Leaving → List chart.TransitionTree
leaving early state xs = filter_map (leaves early state) xs

-- a state with its number
abbrev pub mode_of : NetEntityTree → List NetEntityTree → List Leaving → ℕ × State → ModeTree
mode_of e kids xs q = record { refinement = refinement_of e kids q.1; preemptive = leaving true q.0 xs; others = leaving false q.0 xs }

abbrev pub modes_of : NetEntityTree → List NetEntityTree → List Leaving → List ModeTree
modes_of e kids xs = map (mode_of e kids xs) (enumerate_from 0 e.states)

-- ---- refinements

-- where a state names a refinement, it stands there
abbrev pub IsRefined : NetEntityTree → List NetEntityTree → State → Type 0
IsRefined e kids s = (path : List ℕ) → refinement_path e s ≡ Some path → (r : ℕ) × (refinement_of e kids s ≡ Some r)

-- some state names the refinement of this number
pub record IsNamed (e : NetEntityTree) (kids : List NetEntityTree) (r : ℕ) : Type 0 where
  pub number : ℕ
  pub state : State
  pub at : slice_get e.states number ≡ Some state
  pub names : refinement_of e kids state ≡ Some r

-- no two of these states name one refinement
abbrev pub AreApart : NetEntityTree → List NetEntityTree → List State → Type 0
AreApart e kids states = (i j r : ℕ) (s t : State) → slice_get states i ≡ Some s → slice_get states j ≡ Some t → refinement_of e kids s ≡ Some r → refinement_of e kids t ≡ Some r → i ≡ j

-- each input of a refinement takes from the own input of its name, and each own output has the output of its name, if there is one
pub record IsPortMap (e kid : NetEntityTree) (p : PortMap) : Type 0 where
  pub inputs : map (λ i. Some i) p.inputs ≡ map (number_of (names_along Input e.ports)) (names_along Input kid.ports)
  pub outputs : p.outputs ≡ map (number_of (names_along Output kid.ports)) (names_along Output e.ports)
  -- no output of it has another name
  pub known : All (λ name. (i : ℕ) × (number_of (names_along Output e.ports) name ≡ Some i)) (names_along Output kid.ports)

-- ---- the machine

-- The states name all that stands there, each once, and it is opaque.
pub record AreRefinements (e : NetEntityTree) (kids : List NetEntityTree) (parted : Bool) : Type 0 where
  pub whole : parted ≡ false
  pub opaque : All (λ kid. is_opaque kid ≡ true) kids
  pub named : All (IsRefined e kids) e.states
  pub each : (r : ℕ) → r < length kids → IsNamed e kids r
  pub apart : AreApart e kids e.states

-- The machine of a Modal entity of this number, with these values and types, in which these entities stand.
pub record IsMachine (typing : Assignment) (s : ModalScope) (m : ℕ) (e : NetEntityTree) (v : EntityView) (kids : List NetEntityTree) (parted : Bool) (x : Machine) : Type 0 where
  pub refinements : AreRefinements e kids parted
  pub inputs : x.names.inputs ≡ typed_along Input typing m e.ports
  pub outputs : x.names.outputs ≡ typed_along Output typing m e.ports
  pub variables : x.names.variables ≡ typed_variables v.variables e.variables
  pub values : x.values ≡ map token_of v.variables
  pub initial : number_if (state_names e) e.initial ≡ Some x.initial
  pub ports : AllZip (IsPortMap e) kids x.ports
  pub transitions : List Leaving
  pub leave : AllZip (IsLeaving s e) e.transitions transitions
  pub parameters : x.names.parameters ≡ seen_tokens s.around (trees_of transitions)
  pub modes : x.modes ≡ modes_of e kids transitions

-- ---- a net

-- the machine of the Modal entity of this number
pub record IsMachineIn (net : Net) (values : Values) (typing : Assignment) (m : ℕ) (x : Machine) : Type 0 where
  pub entity : NetEntityTree
  pub held : EntityView
  pub modal : IsModal net values m entity held
  pub is : IsMachine typing (scope_of net values m entity held) m entity held (kids_in net m) (is_parted net m) x

-- the machine of an entity of a net, where it is Modal
abbrev pub IsMachineOf : Net → Values → Assignment → ℕ → NetEntityTree → Option Machine → Type 0
IsMachineOf net values typing m e (Some x) = IsMachineIn net values typing m x
IsMachineOf net values typing m e None = is_modal e ≡ false

-- those of all entities
pub record AreMachines (net : Net) (values : Values) (typing : Assignment) (xs : List (Option Machine)) : Type 0 where
  pub counted : length xs ≡ length net.entities.items
  pub each : (m : ℕ) (e : NetEntityTree) (x : Option Machine) → slice_get (map entity_view net.entities.items) m ≡ Some e → slice_get xs m ≡ Some x → IsMachineOf net values typing m e x

-- The actions of a transition, one after the other.
use Rattle.std.proofs.Common.{◌≡◌, ℕ, ◌+◌, ◌<◌, ◌≤◌, List, [], ◌∷◌, ◌++◌, length, map, take, get_or, Bool, None, refl, sym, ap, subst, ◌∙◌}
use Rattle.std.specs.List.{AllZip, Contains}
use Rattle.std.proofs.lemmas.List.{take_all}
use Rattle.pt_language.specs.Tree.{Tree}
use Rattle.pt_document.specs.declared.job.OutputAction.{OutputAction}
use Rattle.pt_document.specs.declared.job.SetAction.{SetAction}
use Rattle.pt_document.specs.declared.job.Direction.TheVariants.{Output}
use Rattle.pt_document.specs.Document.{TransitionTree}
use Rattle.pt_net.specs.Net.{NetEntityTree}
use Rattle.pt_scopes.proofs.Pushed.{zip-next}
use Rattle.pt_chart.specs.declared.written.Action.{Action}
use Rattle.pt_chart.specs.Machine.{ActionTree}
use Rattle.pt_chart.specs.Views.{action_view}
use Rattle.pt_machine.specs.declared.cause.Cause.{Cause}
use Rattle.pt_machine.specs.declared.cause.Cause.TheVariants as cause
use Rattle.pt_machine.specs.Numbers.{Numbers, number_of}
use Rattle.pt_machine.specs.Names.{state_names, names_along, variable_names}
use Rattle.pt_machine.specs.Machines.{action_tree}
use Rattle.pt_machine.specs.Causes.{IsAtFault, from, to, output, set}
use Rattle.pt_machine_parts.proofs.NameLaws.{not-among}

trees-more : (xs : List Action) (x : Action) → map action_tree (map action_view (xs ++ x ∷ [])) ≡ map action_tree (map action_view xs) ++ action_tree (action_view x) ∷ []
trees-more [] x = refl
trees-more (y ∷ xs) x = ap (λ (ts : List Tree). action_tree (action_view y) ∷ ts) (trees-more xs x)

-- the trees of actions, one more
pub action-trees : (xs new : List Action) (x : Action) → new ≡ xs ++ x ∷ [] → map action_tree (map action_view new) ≡ map action_tree (map action_view xs) ++ action_tree (action_view x) ∷ []
action-trees xs new x more = ap (λ (ys : List Action). map action_tree (map action_view ys)) more ∙ trees-more xs x

module _ {A : Type 0} (R : A → ActionTree → Type 0) (given : List A) where
  pub actions-more : (i : ℕ) (a : A) → i < length given → a ≡ get_or given i a → (xs new : List Action) (x : Action) → AllZip R (take i given) (map action_view xs) → R a (action_view x) → new ≡ xs ++ x ∷ [] → AllZip R (take (i + 1) given) (map action_view new)
  actions-more i a short is xs new x each here more =
      subst (λ (ys : List Action). AllZip R (take (i + 1) given) (map action_view ys)) (sym more) (zip-next R action_view given i a short is xs x each here)

  pub actions-all : (all : List A) → given ≡ all → (i : ℕ) (ys : List ActionTree) → length given ≤ i → AllZip R (take i given) ys → AllZip R all ys
  actions-all all same i ys past each = subst (λ (zs : List A). AllZip R zs ys) (take_all i given past ∙ same) each

-- ---- faults of a transition

unnamed : (names : List (List ℕ)) (numbers : Numbers) (name asked : List ℕ) → ((n : List ℕ) → numbers n ≡ number_of names n) → asked ≡ name → numbers asked ≡ None → Contains names name → ⊥
unnamed names numbers name asked known same none = not-among names name (sym (known name) ∙ ap numbers (sym same) ∙ none)

module _ (e : NetEntityTree) (kids : List NetEntityTree) (parted : Bool) (t : TransitionTree) (there : Contains e.transitions t) (numbers : Numbers) (asked : List ℕ) where
  pub from-fault : ((n : List ℕ) → numbers n ≡ number_of (state_names e) n) → asked ≡ t.from → (why : Cause) → (why ≡ cause.From) × (numbers asked ≡ None) → IsAtFault e kids parted why
  from-fault known same why w = subst (IsAtFault e kids parted) (sym w.0) (from t there (unnamed (state_names e) numbers t.from asked known same w.1))

  pub to-fault : ((n : List ℕ) → numbers n ≡ number_of (state_names e) n) → asked ≡ t.to → (why : Cause) → (why ≡ cause.To) × (numbers asked ≡ None) → IsAtFault e kids parted why
  to-fault known same why w = subst (IsAtFault e kids parted) (sym w.0) (to t there (unnamed (state_names e) numbers t.to asked known same w.1))

  pub output-fault : (a : OutputAction) → Contains t.output a → ((n : List ℕ) → numbers n ≡ number_of (names_along Output e.ports) n) → asked ≡ a.port → (why : Cause) → (why ≡ cause.OutputAction) × (numbers asked ≡ None) → IsAtFault e kids parted why
  output-fault a has known same why w = subst (IsAtFault e kids parted) (sym w.0) (output t a there has (unnamed (names_along Output e.ports) numbers a.port asked known same w.1))

  pub set-fault : (a : SetAction) → Contains t.set a → ((n : List ℕ) → numbers n ≡ number_of (variable_names e) n) → asked ≡ a.name → (why : Cause) → (why ≡ cause.SetAction) × (numbers asked ≡ None) → IsAtFault e kids parted why
  set-fault a has known same why w = subst (IsAtFault e kids parted) (sym w.0) (set t a there has (unnamed (variable_names e) numbers a.name asked known same w.1))

-- The machine of a Modal entity of a document whose types break nowhere.
use Rattle.std.proofs.Common.{◌≡◌, ◌⊎◌, inl, inr, ℕ, zero, suc, List, [], ◌∷◌, ◌++◌, map, Bool, true, false, ◌&&◌, nat_eq, Some, None, refl, sym, ap, subst, ◌∙◌, arith, if◌then◌else◌, slice_get}
use Rattle.std.specs.List.{AllByRecursion, AllZip, Contains, cons_option, flat_map, enumerate_from}
use Rattle.pt_meaning.specs.Streams.{Streams}
use Rattle.pt_meaning.specs.Modal.{Acts}
use Rattle.pt_meaning.specs.Transitions.{Scope as Seen}
use Rattle.pt_value.specs.declared.token.Token.{Token}
use Rattle.pt_datatypes.specs.Datatype.{Datatype, General}
use Rattle.pt_datatypes.specs.Token.{type_of_value}
use Rattle.pt_datatypes.proofs.Fields.{and_left, and_right}
use Rattle.pt_language.specs.Tree.{Tree}
use Rattle.pt_language.specs.Typing.{Typing, Has, Clash, or_general}
use Rattle.pt_language.specs.Types.{Types}
use Rattle.pt_language.specs.TreeType.{IsTyped, are_bound, tree_type}
use Rattle.pt_document.specs.declared.job.State.{State}
use Rattle.pt_document.specs.declared.job.OutputAction.{OutputAction}
use Rattle.pt_document.specs.declared.job.SetAction.{SetAction}
use Rattle.pt_document.specs.declared.job.Direction.TheVariants.{Input, Output}
use Rattle.pt_document.specs.Document.{property_name, TransitionTree}
use Rattle.pt_net.specs.Net.{NetEntityTree}
use Rattle.pt_scopes.specs.Texts.{names_in}
use Rattle.pt_scopes.specs.Valued.{EntityView}
use Rattle.pt_typing.specs.declared.variable.Variable.TheVariants.{Port}
use Rattle.pt_typing.specs.Terms.{is_type}
use Rattle.pt_typing.specs.Least.{Assignment}
use Rattle.pt_inequalities.specs.Frames.{Frames, no_names}
use Rattle.pt_inequalities.specs.ModalScopes.{ModalScope, modal_scope, modal_types, IsReadIn}
use Rattle.pt_inequalities.specs.Typing.{HasTypeIn}
use Rattle.pt_kinds.specs.Signature.{AreEach, AreOf}
use Rattle.pt_chart.specs.Machine as chart
use Rattle.pt_chart.specs.Machine.{ActionTree, ModeTree, Machine}
use Rattle.pt_chart.specs.Chart.{chart_of}
use Rattle.pt_chart.specs.Typed.{types_of, is_typed_machine, are_typed_modes}
use Rattle.pt_machine.specs.Names.{names_along, variable_names}
use Rattle.pt_machine.specs.Numbers.{number_of, no_numbers}
use Rattle.pt_machine.specs.Machines.{Leaving, IsLeaving, IsOutput, IsSet, IsMachine, action_tree, trees_in, trees_of, same, leaving, mode_of}
use Rattle.pt_modal_types.specs.Laws.{IsTokenOf, types_in, IsClear, IsSound, MachinesAreTyped, MachinesKeepTypes}
use Rattle.pt_modal_types.proofs.TreeTypes.{HasAtLeast, bound-more, type-same}
use Rattle.pt_modal_types.proofs.LastLaws.{Among, or-nothing, last_number, numbers-last, vars, vars-are, variable-of}
use Rattle.pt_modal_types.proofs.NameLaws.{ports-are, are-own, entries, entries-are, along-of}
use Rattle.pt_modal_types.proofs.ScopeLaws.{at-least}
use Rattle.pt_modal_types.proofs.ActionLaws.{IsKept, IsRight, AreRight, IsRightMode, IsTypedActed, mode-acted, typed-one, modes-typed}

-- ---- lists

among-left : {A : Type 0} (xs ys : List A) (x : A) → Among x xs → Among x (xs ++ ys)
among-left [] ys x a = absurd a
among-left (z ∷ xs) ys x (inl here) = inl here
among-left (z ∷ xs) ys x (inr rest) = inr (among-left xs ys x rest)

among-right : {A : Type 0} (xs ys : List A) (x : A) → Among x ys → Among x (xs ++ ys)
among-right [] ys x a = a
among-right (z ∷ xs) ys x a = inr (among-right xs ys x a)

among-map : {A B : Type 0} (f : A → B) (xs : List A) (x : A) → Among x xs → Among (f x) (map f xs)
among-map f [] x a = absurd a
among-map f (z ∷ xs) x (inl here) = inl (ap f here)
among-map f (z ∷ xs) x (inr rest) = inr (among-map f xs x rest)

among-flat : {A B : Type 0} (f : A → List B) (xs : List A) (x : A) (y : B) → Among x xs → Among y (f x) → Among y (flat_map f xs)
among-flat f [] x y a b = absurd a
among-flat {A} {B} f (z ∷ xs) x y (inl here) b = among-left (f z) (flat_map f xs) y (subst (λ (u : A). Among y (f u)) (sym here) b)
among-flat f (z ∷ xs) x y (inr rest) b = among-right (f z) (flat_map f xs) y (among-flat f xs x y rest b)

zip-all : {A B : Type 0} (R : A → B → Type 0) (P : B → Type 0) (xs : List A) (ys : List B) → AllZip R xs ys → ((x : A) → Contains xs x → (y : B) → Among y ys → R x y → P y) → AllByRecursion P ys
zip-all R P xs [] all f = tt
zip-all R P [] (y ∷ ys) all f = absurd all
zip-all R P (x ∷ xs) (y ∷ ys) all f = (f x (0, omega (arith), refl) y (inl refl) all.0, zip-all R P xs ys all.1 (λ z c w a r. f z (suc c.0, omega (arith, c.1), c.2) w (inr a) r))

pub types-at : (es : List (List ℕ × Datatype)) (i : ℕ) (entry : List ℕ × Datatype) → slice_get es i ≡ Some entry → slice_get (types_in es) i ≡ Some entry.1
types-at [] i entry e = absurd (cc)
types-at (x ∷ es) zero entry e = let same : x ≡ entry = cc in ap (λ (y : List ℕ × Datatype). Some y.1) same
types-at (x ∷ es) (suc i) entry e = types-at es i entry e

pub numbered : (names : List (List ℕ)) (name : List ℕ) (i : ℕ) → number_of names name ≡ Some i → last_number 0 names name ≡ Some i
numbered names name i e = sym (numbers-last 0 names no_numbers name ∙ or-nothing (last_number 0 names name)) ∙ e

-- ---- a machine

module _ (typing : Assignment) (frames : Frames) (m : ℕ) (e : NetEntityTree) (v : EntityView) (kids : List NetEntityTree) (parted : Bool) (x : Machine) (is : IsMachine typing (modal_scope frames m e v) m e v kids parted x) (sound : IsSound typing (modal_scope frames m e v) m e v) where
  abbrev s : ModalScope
  s = modal_scope frames m e v

  abbrev types : Types
  types = types_of x.names

  -- the types of what a tree names in the net
  abbrev own : Tree → Types
  own t = modal_types typing s t

  -- what is named in a tree has its type in the machine
  types-more : (t : Tree) → Among t (trees_of is.transitions) → HasAtLeast (modal_types typing s t) types
  types-more t among =
      at-least typing frames m e v sound (flat_map names_in (trees_of is.transitions)) x.names (is.inputs ∙ entries-are typing m Input 0 e.ports) (is.outputs ∙ entries-are typing m Output 0 e.ports) (is.variables ∙ vars-are v.variables e.variables sound.valued) is.parameters t (λ name a. among-flat names_in (trees_of is.transitions) t name among a)

  -- the type of a tree in the net is its type in the machine
  read-typed : (text : List ℕ) (t : Tree) → IsReadIn s text t → IsClear typing s text → Among t (trees_of is.transitions) → (u : Datatype) × HasTypeIn typing s text u × IsTyped types t u
  read-typed text t read clear among = by_type (tree_type (own t) t) refl (and_right (are_bound (own t) t) (is_type (tree_type (own t) t)) (clear t read))
    where
      bound : are_bound (own t) t ≡ true
      bound = and_left (are_bound (own t) t) (is_type (tree_type (own t) t)) (clear t read)

      by_type : (p : Typing Datatype) → tree_type (own t) t ≡ p → is_type p ≡ true → (u : Datatype) × HasTypeIn typing s text u × IsTyped types t u
      by_type (Has u) at ok = (
        u,
        record { read = t; is_read = read; is = sym (ap (λ b. if b then or_general (tree_type (own t) t) else General) bound ∙ ap or_general at) },
        record { bound = bound-more (own t) types (types-more t among) t bound; typed = type-same (own t) types (types-more t among) t bound ∙ at },
      )
      by_type Clash at ok = let no : false ≡ true = ok in absurd (cc)

  output-kept : (tr : TransitionTree) (a : OutputAction) (y : ActionTree) → Contains e.transitions tr → Contains tr.output a → IsOutput s e a y → Among y.tree (trees_of is.transitions) → IsKept x.names (types_in x.names.outputs) y
  output-kept tr a y ct ca acts among =
      let w = read-typed a.value y.tree acts.read (sound.clear_outputs tr a ct ca) among in
      let o = along-of typing m Output 0 0 e.ports a.port y.target (are-own e.ports sound.apart) (numbered (names_along Output e.ports) a.port y.target acts.target) in
      let number : y.target ≡ o.place = omega (arith, o.number) in
      record {
        type = w.0;
        top = typing.types (Port m o.port);
        typed = w.2;
        at =
            ap (λ (es : List (List ℕ × Datatype)). slice_get (types_in es) y.target) (is.outputs ∙ entries-are typing m Output 0 e.ports) ∙ ap (λ (i : ℕ). slice_get (types_in (entries typing m Output 0 e.ports)) i) number
            ∙ types-at (entries typing m Output 0 e.ports) o.place (a.port, typing.types (Port m o.port)) o.type;
        below = sound.outputs tr a w.0 o.port ct ca (ports-are e.ports a.port ∙ o.at) w.1;
      }

  set-kept : (tr : TransitionTree) (a : SetAction) (y : ActionTree) → Contains e.transitions tr → Contains tr.set a → IsSet s e a y → Among y.tree (trees_of is.transitions) → IsKept x.names (types_in x.names.variables) y
  set-kept tr a y ct ca acts among =
      let w = read-typed a.value y.tree acts.read (sound.clear_sets tr a ct ca) among in
      let q = variable-of e.variables v.variables no_names 0 a.name y.target sound.valued (numbered (variable_names e) a.name y.target acts.target) in
      let number : y.target ≡ q.place = omega (arith, q.number) in
      record {
        type = w.0;
        top = type_of_value q.value;
        typed = w.2;
        at =
            ap (λ (es : List (List ℕ × Datatype)). slice_get (types_in es) y.target) (is.variables ∙ vars-are v.variables e.variables sound.valued) ∙ ap (λ (i : ℕ). slice_get (types_in (vars e.variables v.variables)) i) number
            ∙ types-at (vars e.variables v.variables) q.place (a.name, type_of_value q.value) q.type;
        below = sound.sets tr a w.0 q.value ct ca q.under w.1;
      }

  leaving-right : (tr : TransitionTree) → Contains e.transitions tr → (y : Leaving) → Among y is.transitions → IsLeaving s e tr y → IsRight x.names y.made
  leaving-right tr ct y ay l =
      let outs = map action_tree y.made.outputs in
      let sets = map action_tree y.made.sets in
      let guard = read-typed tr.guard y.made.guard l.guard (sound.guards tr ct) (among-flat trees_in is.transitions y y.made.guard ay (inl refl)) in
      record {
        guard = typed-one types y.made.guard guard.0 guard.2;
        outputs =
            zip-all (IsOutput s e) (IsKept x.names (types_in x.names.outputs)) tr.output y.made.outputs l.outputs
            (λ a ca z az r. output-kept tr a z ct ca r (among-flat trees_in is.transitions y z.tree ay (inr (among-left outs sets z.tree (among-map action_tree y.made.outputs z az)))));
        sets =
            zip-all (IsSet s e) (IsKept x.names (types_in x.names.variables)) tr.set y.made.sets l.sets
            (λ a ca z az r. set-kept tr a z ct ca r (among-flat trees_in is.transitions y z.tree ay (inr (among-right outs sets z.tree (among-map action_tree y.made.sets z az)))));
      }

  abbrev AllRight : List Leaving → Type 0
  AllRight ys = AllByRecursion (λ (y : Leaving). IsRight x.names y.made) ys

  kind-right : (early : Bool) (state : ℕ) (ys : List Leaving) → AllRight ys → AreRight x.names (leaving early state ys)
  kind-right early state [] all = tt
  kind-right early state (y ∷ ys) all = by_test (kind-right early state ys all.1) (nat_eq y.from state && same y.early early)
    where
      by_test : AreRight x.names (leaving early state ys) → (b : Bool) → AreRight x.names (cons_option (if b then Some y.made else None) (leaving early state ys))
      by_test rest true = (all.0, rest)
      by_test rest false = rest

  states-right : AllRight is.transitions → (qs : List (ℕ × State)) → AllByRecursion (IsRightMode x.names) (map (mode_of e kids is.transitions) qs)
  states-right all [] = tt
  states-right all (q ∷ qs) = ((kind-right true q.0 is.transitions all, kind-right false q.0 is.transitions all), states-right all qs)

  all-right : AllRight is.transitions
  all-right = zip-all (IsLeaving s e) (λ (y : Leaving). IsRight x.names y.made) e.transitions is.transitions is.leave leaving-right

  modes-right : AllByRecursion (IsRightMode x.names) x.modes
  modes-right = subst (λ (ms : List ModeTree). AllByRecursion (IsRightMode x.names) ms) (sym is.modes) (states-right all-right (enumerate_from 0 e.states))

pub machines-typed : MachinesAreTyped
machines-typed typing frames m e v kids parted x is sound = modes-typed x.names x.modes (modes-right typing frames m e v kids parted x is sound)

pub machines-keep : MachinesKeepTypes
machines-keep typing frames m e v kids parted x is sound early mode n values new inputs given out each of acts =
    let seen : Seen Token = record { values = values; inputs = inputs; given = given } in
    let done = mode-acted x.names seen each of x.modes (modes-right typing frames m e v kids parted x is sound) early mode n in
    subst (λ a. IsTypedActed x.names a) acts done

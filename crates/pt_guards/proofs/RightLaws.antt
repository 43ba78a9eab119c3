-- Guards and actions that have a type are never wrong.
use Rattle.std.proofs.Common.{◌≡◌, ℕ, zero, suc, ◌<◌, List, [], ◌∷◌, length, get_or, map, Bool, true, false, ◌&&◌, Option, Some, None, refl, sym, ap, subst, ◌∙◌, arith, if◌then◌else◌}
use Rattle.std.specs.Prelude.{bytes_eq, option_map, IfSome}
use Rattle.std.specs.List.{list_all}
use Rattle.pt_meaning.specs.Transitions.{input_in, output_in, variable_in}
use Rattle.pt_meaning.specs.Transitions.{Scope as Reads}
use Rattle.pt_value.specs.Value.{Value}
use Rattle.pt_value.specs.Token.{value_of}
use Rattle.pt_value.specs.declared.token.Token.{Token}
use Rattle.pt_datatypes.specs.Datatype.{Datatype}
use Rattle.pt_datatypes.specs.Order.{is_below}
use Rattle.pt_datatypes.specs.Token.{type_of_value}
use Rattle.pt_datatypes.proofs.Fields.{and_left, and_right}
use Rattle.pt_datatypes.proofs.Order.{below-refl}
use Rattle.pt_language.specs.Outcome.{Outcome, Wrong}
use Rattle.pt_language.specs.Scope.{Scope}
use Rattle.pt_language.specs.Tree.{Tree}
use Rattle.pt_language.specs.Typing.{Typing, Has, Clash}
use Rattle.pt_language.specs.Types.{Types}
use Rattle.pt_language.specs.TreeType.{tree_type, are_bound, IsTyped}
use Rattle.pt_language.specs.Meaning.{value}
use Rattle.pt_language.specs.Laws.{IsHeld, Keeps, IsOfType}
use Rattle.pt_language.proofs.TypeSound.{typed-sound}
use Rattle.pt_firing.specs.Params.{value_under}
use Rattle.pt_formula.specs.Formula.{parameters, with_name, parameter_types, with_type, with_types, has_type}
use Rattle.pt_chart.specs.Machine.{ActionTree, TransitionTree, ModeTree, NameTable}
use Rattle.pt_chart.specs.Names.{of_type, with_names, names_in}
use Rattle.pt_chart.specs.Typed.{types_of, is_typed, are_typed_actions, is_typed_transition, are_typed_transitions, is_typed_mode, are_typed_modes}
use Rattle.pt_guards.specs.Choose.{AreRightGuards}
use Rattle.pt_guards.specs.Acts.{AreRight}
use Rattle.pt_chart.specs.Machine.{mode_at, kind_of}

abbrev Held : Types → Scope → Type 0
Held types scope = (name : List ℕ) → IfSome (types name) (λ t. IsHeld t (scope name))

abbrev Apart : Types → Scope → Type 0
Apart types scope = (name : List ℕ) → types name ≡ None → scope name ≡ None

held-if : (t : Datatype) (x : Token) (b : Bool) → is_below (type_of_value (value_of x)) t ≡ b → IsHeld t (Some (if b then Some (value_of x) else None))
held-if t x true e = e
held-if t x false e = tt

held-one : (t : Datatype) (o : Option Token) → IsHeld t (Some (of_type t o))
held-one t None = tt
held-one t (Some x) = held-if t x (is_below (type_of_value (value_of x)) t) refl

held-names : (k : ℕ) (es : List (List ℕ × Datatype)) (read : ℕ → Option Token) (types : Types) (s : Scope) → Held types s → Held (with_types es types) (with_names k es read s)
held-names k [] read types s h = h
held-names k (e ∷ es) read types s h = held-names (suc k) es read (with_type e.0 e.1 types) (with_name e.0 (of_type e.1 (read k)) s) one
  where
    by_test : (name : List ℕ) (b : Bool) → IfSome (if b then Some e.1 else types name) (λ t. IsHeld t (if b then Some (of_type e.1 (read k)) else s name))
    by_test name true = held-one e.1 (read k)
    by_test name false = h name

    one : Held (with_type e.0 e.1 types) (with_name e.0 (of_type e.1 (read k)) s)
    one name = by_test name (bytes_eq e.0 name)

apart-names : (k : ℕ) (es : List (List ℕ × Datatype)) (read : ℕ → Option Token) (types : Types) (s : Scope) → Apart types s → Apart (with_types es types) (with_names k es read s)
apart-names k [] read types s h = h
apart-names k (e ∷ es) read types s h = apart-names (suc k) es read (with_type e.0 e.1 types) (with_name e.0 (of_type e.1 (read k)) s) one
  where
    by_test : (name : List ℕ) (b : Bool) → (if b then Some e.1 else types name) ≡ None → (if b then Some (of_type e.1 (read k)) else s name) ≡ None
    by_test name true h2 = cc
    by_test name false h2 = h name h2

    one : Apart (with_type e.0 e.1 types) (with_name e.0 (of_type e.1 (read k)) s)
    one name = by_test name (bytes_eq e.0 name)

held-parameters : (values : List (List ℕ × Token)) → Held (parameter_types values) (parameters values)
held-parameters values name = by_value (value_under name values)
  where
    by_value : (o : Option Token) → IfSome (option_map (λ token. type_of_value (value_of token)) o) (λ t. IsHeld t (option_map (λ token. Some (value_of token)) o))
    by_value None = tt
    by_value (Some token) = below-refl (type_of_value (value_of token))

apart-parameters : (values : List (List ℕ × Token)) → Apart (parameter_types values) (parameters values)
apart-parameters values name = by_value (value_under name values)
  where
    by_value : (o : Option Token) → option_map (λ token. type_of_value (value_of token)) o ≡ None → option_map (λ token. Some (value_of token)) o ≡ None
    by_value None e = refl
    by_value (Some token) e = cc

keeps : (table : NameTable) (reads : Reads Token) → Keeps (types_of table) (names_in table reads)
keeps table reads =
    let vs = table.variables in
    let os = table.outputs in
    let ps = table.parameters in
    record {
      held = held-names 0 table.inputs (input_in reads) (with_types os (with_types vs (parameter_types ps))) (with_names 0 os (output_in reads) (with_names 0 vs (variable_in reads) (parameters ps))) (held-names 0 os (output_in reads) (with_types vs (parameter_types ps)) (with_names 0 vs (variable_in reads) (parameters ps)) (held-names 0 vs (variable_in reads) (parameter_types ps) (parameters ps) (held-parameters ps)));
      asked = λ name port e. apart-names 0 table.inputs (input_in reads) (with_types os (with_types vs (parameter_types ps))) (with_names 0 os (output_in reads) (with_names 0 vs (variable_in reads) (parameters ps))) (apart-names 0 os (output_in reads) (with_types vs (parameter_types ps)) (with_names 0 vs (variable_in reads) (parameters ps)) (apart-names 0 vs (variable_in reads) (parameter_types ps) (parameters ps) (apart-parameters ps))) name e;
    }

pub never-wrong : (table : NameTable) (reads : Reads Token) (tree : Tree) → is_typed (types_of table) tree ≡ true → ¬ (value (names_in table reads) tree ≡ Wrong)
never-wrong table reads tree typed wrong = by_type (tree_type (types_of table) tree) refl
  where
    by_type : (p : Typing Datatype) → tree_type (types_of table) tree ≡ p → ⊥
    by_type (Has t) e =
        let has : IsTyped (types_of table) tree t = record { bound = and_left (are_bound (types_of table) tree) (has_type (tree_type (types_of table) tree)) typed; typed = e } in
        subst (λ (o : Outcome Value). IsOfType t o) wrong (typed-sound (types_of table) (names_in table reads) (keeps table reads) tree t has)
    by_type Clash e =
        let h : has_type Clash ≡ true = sym (ap has_type e) ∙ and_right (are_bound (types_of table) tree) (has_type (tree_type (types_of table) tree)) typed in
        let no : false ≡ true = h in cc

-- ---- of lists of actions, transitions and states

pub right-actions : (table : NameTable) (reads : Reads Token) (acts : List ActionTree) → are_typed_actions (types_of table) acts ≡ true → AreRight (names_in table reads) acts
right-actions table reads [] typed = tt
right-actions table reads (a ∷ acts) typed = (never-wrong table reads a.tree (and_left (is_typed (types_of table) a.tree) (are_typed_actions (types_of table) acts) typed), right-actions table reads acts (and_right (is_typed (types_of table) a.tree) (are_typed_actions (types_of table) acts) typed))

pub right-guards : (table : NameTable) (reads : Reads Token) (ts : List TransitionTree) → are_typed_transitions (types_of table) ts ≡ true → AreRightGuards (names_in table reads) ts
right-guards table reads [] typed = tt
right-guards table reads (t ∷ ts) typed =
    let types = types_of table in
    let one : is_typed_transition types t ≡ true = and_left (is_typed_transition types t) (are_typed_transitions types ts) typed in
    (never-wrong table reads t.guard (and_left (is_typed types t.guard) (are_typed_actions types t.outputs && are_typed_actions types t.sets) one), right-guards table reads ts (and_right (is_typed_transition types t) (are_typed_transitions types ts) typed))

pub typed-outputs : (types : Types) (t : TransitionTree) → is_typed_transition types t ≡ true → are_typed_actions types t.outputs ≡ true
typed-outputs types t typed = and_left (are_typed_actions types t.outputs) (are_typed_actions types t.sets) (and_right (is_typed types t.guard) (are_typed_actions types t.outputs && are_typed_actions types t.sets) typed)

pub typed-sets : (types : Types) (t : TransitionTree) → is_typed_transition types t ≡ true → are_typed_actions types t.sets ≡ true
typed-sets types t typed = and_right (are_typed_actions types t.outputs) (are_typed_actions types t.sets) (and_right (is_typed types t.guard) (are_typed_actions types t.outputs && are_typed_actions types t.sets) typed)

-- an element of a list that is all so
pub all-at : {A B : Type 0} (p : B → Bool) (view : A → B) (xs : List A) (n : ℕ) (x : A) → list_all p (map view xs) ≡ true → n < length xs → x ≡ get_or xs n x → p (view x) ≡ true
all-at p view [] n x all short is = absurd (omega (arith, short))
all-at p view (y ∷ xs) zero x all short is = ap (λ z. p (view z)) is ∙ and_left (p (view y)) (list_all p (map view xs)) all
all-at p view (y ∷ xs) (suc n) x all short is = all-at p view xs n x (and_right (p (view y)) (list_all p (map view xs)) all) (omega (arith, short)) is

pub typed-kind : (types : Types) (early : Bool) (modes : List ModeTree) (mode : ℕ) → are_typed_modes types modes ≡ true → are_typed_transitions types (kind_of early (mode_at modes mode)) ≡ true
typed-kind types true [] mode all = refl
typed-kind types false [] mode all = refl
typed-kind types true (m ∷ modes) zero all = and_left (are_typed_transitions types m.preemptive) (are_typed_transitions types m.others) (and_left (is_typed_mode types m) (are_typed_modes types modes) all)
typed-kind types false (m ∷ modes) zero all = and_right (are_typed_transitions types m.preemptive) (are_typed_transitions types m.others) (and_left (is_typed_mode types m) (are_typed_modes types modes) all)
typed-kind types early (m ∷ modes) (suc mode) all = typed-kind types early modes mode (and_right (is_typed_mode types m) (are_typed_modes types modes) all)

-- A tree with a type isn't wrong on tokens of the types of its names.
use Rattle.std.proofs.Common.{◌≡◌, ℕ, ◌<◌, ◌+◌, zero, suc, List, [], ◌∷◌, length, get_or, drop, map, Bool, true, false, ◌&&◌, Option, Some, None, refl, sym, ap, subst, ◌∙◌, add-one, if◌then◌else◌}
use Rattle.std.specs.Prelude.{bytes_eq, option_map, IfSome}
use Rattle.pt_meaning.specs.Basics.{Streams}
use Rattle.pt_value.specs.Value.{Value}
use Rattle.pt_value.specs.Token.{value_of}
use Rattle.pt_value.specs.declared.token.Token.{Token}
use Rattle.pt_datatypes.specs.Datatype.{Datatype}
use Rattle.pt_datatypes.specs.Token.{type_of_value}
use Rattle.pt_datatypes.proofs.Fields.{and_left, and_right, and_both}
use Rattle.pt_datatypes.proofs.Order.{below-refl}
use Rattle.pt_language.specs.Outcome.{Outcome, Wrong}
use Rattle.pt_language.specs.Scope.{Scope}
use Rattle.pt_language.specs.declared.type_fault.TypeFault.TheVariants as fault
use Rattle.pt_language.specs.TypeFault.{Stands}
use Rattle.pt_language.specs.Typing.{Typing, Has, Clash}
use Rattle.pt_language.specs.Types.{Types}
use Rattle.pt_language.specs.TreeType.{tree_type, are_bound, IsTyped}
use Rattle.pt_language.specs.Laws.{IsHeld, Keeps, IsOfType}
use Rattle.pt_language.proofs.TypeSound.{typed-sound}
use Rattle.pt_firing.specs.Params.{value_under}
use Rattle.pt_firing.specs.Row.{token_at}
use Rattle.pt_formula.specs.Formula.{Formula, names, parameters, with_name, with_inputs, parameter_types, with_type, with_types, types_of, has_type, is_typed, is_of, are_of}
use Rattle.pt_lib_flow.specs.Expression.{scope, outcome}

-- ---- what is bound is of the types

abbrev Held : Types → Scope → Type 0
Held types scope = (name : List ℕ) → IfSome (types name) (λ t. IsHeld t (scope name))

abbrev Apart : Types → Scope → Type 0
Apart types scope = (name : List ℕ) → types name ≡ None → scope name ≡ None

token-held : (t : Datatype) (o : Option Token) → is_of t o ≡ true → IsHeld t (Some (option_map value_of o))
token-held t None e = tt
token-held t (Some token) e = e

held-inputs : (inputs : List (List ℕ × Datatype)) (X : Streams Token) (types : Types) (s : Scope) → Held types s → are_of inputs X ≡ true → Held (with_types inputs types) (with_inputs (names inputs) X s)
held-inputs [] X types s h e = h
held-inputs (input ∷ inputs) X types s h e =
    held-inputs inputs (drop 1 X) (with_type input.0 input.1 types) (with_name input.0 held s) one (and_right (is_of input.1 (token_at X 0)) (are_of inputs (drop 1 X)) e)
  where
    held : Option Value
    held = option_map value_of (token_at X 0)

    by_test : (name : List ℕ) (b : Bool) → IfSome (if b then Some input.1 else types name) (λ t. IsHeld t (if b then Some held else s name))
    by_test name true = token-held input.1 (token_at X 0) (and_left (is_of input.1 (token_at X 0)) (are_of inputs (drop 1 X)) e)
    by_test name false = h name

    one : Held (with_type input.0 input.1 types) (with_name input.0 held s)
    one name = by_test name (bytes_eq input.0 name)

apart-inputs : (inputs : List (List ℕ × Datatype)) (X : Streams Token) (types : Types) (s : Scope) → Apart types s → Apart (with_types inputs types) (with_inputs (names inputs) X s)
apart-inputs [] X types s h = h
apart-inputs (input ∷ inputs) X types s h = apart-inputs inputs (drop 1 X) (with_type input.0 input.1 types) (with_name input.0 held s) one
  where
    held : Option Value
    held = option_map value_of (token_at X 0)

    by_test : (name : List ℕ) (b : Bool) → (if b then Some input.1 else types name) ≡ None → (if b then Some held else s name) ≡ None
    by_test name true e = cc
    by_test name false e = h name e

    one : Apart (with_type input.0 input.1 types) (with_name input.0 held s)
    one name = by_test name (bytes_eq input.0 name)

held-parameters : (values : List (List ℕ × Token)) → Held (parameter_types values) (parameters values)
held-parameters values name = by_value (value_under name values)
  where
    by_value : (o : Option Token) → IfSome (option_map (λ token. type_of_value (value_of token)) o) (λ t. IsHeld t (option_map (λ token. Some (value_of token)) o))
    by_value None = tt
    by_value (Some token) = below-refl (type_of_value (value_of token))

apart-parameters : (values : List (List ℕ × Token)) → Apart (parameter_types values) (parameters values)
apart-parameters values name = by_value (value_under name values)
  where
    by_value : (o : Option Token) → option_map (λ token. type_of_value (value_of token)) o ≡ None → option_map (λ token. Some (value_of token)) o ≡ None
    by_value None e = refl
    by_value (Some token) e = cc

keeps : (f : Formula) (X : Streams Token) → are_of f.inputs X ≡ true → Keeps (types_of f) (scope f X)
keeps f X fits = record {
  held = held-inputs f.inputs X (parameter_types f.values) (parameters f.values) (held-parameters f.values) fits;
  asked = λ name port e. apart-inputs f.inputs X (parameter_types f.values) (parameters f.values) (apart-parameters f.values) name e;
}

pub never-wrong : (f : Formula) (X : Streams Token) → is_typed f ≡ true → are_of f.inputs X ≡ true → outcome f X ≡ Wrong → ⊥
never-wrong f X typed fits wrong = by_type (tree_type (types_of f) f.tree) refl
  where
    by_type : (p : Typing Datatype) → tree_type (types_of f) f.tree ≡ p → ⊥
    by_type (Has t) e =
        let has : IsTyped (types_of f) f.tree t = record { bound = and_left (are_bound (types_of f) f.tree) (has_type (tree_type (types_of f) f.tree)) typed; typed = e } in
        subst (λ (o : Outcome Value). IsOfType t o) wrong (typed-sound (types_of f) (scope f X) (keeps f X fits) f.tree t has)
    by_type Clash e =
        let h : has_type Clash ≡ true = sym (ap has_type e) ∙ and_right (are_bound (types_of f) f.tree) (has_type (tree_type (types_of f) f.tree)) typed in
        let no : false ≡ true = h in cc

-- ---- whether a tree has a type

abbrev typed_in : Formula → Types → Bool
typed_in f types = are_bound types f.tree && has_type (tree_type types f.tree)

typed-in : (f : Formula) (types : Types) → ((name : List ℕ) → types name ≡ types_of f name) → typed_in f types ≡ is_typed f
typed-in f types same = ap (typed_in f) all
  where
    all : types ≡ types_of f
    all = λ i name. same name i

pub has-type : (f : Formula) (types : Types) (t : Datatype) → ((name : List ℕ) → types name ≡ types_of f name) → IsTyped types f.tree t → true ≡ is_typed f
has-type f types t same h = sym (and_both (are_bound types f.tree) (has_type (tree_type types f.tree)) h.bound (ap has_type h.typed)) ∙ typed-in f types same

pub not-bound : (f : Formula) (types : Types) → ((name : List ℕ) → types name ≡ types_of f name) → are_bound types f.tree ≡ false → false ≡ is_typed f
not-bound f types same h = sym (ap (λ b. b && has_type (tree_type types f.tree)) h) ∙ typed-in f types same

no-clash : (b : Bool) → false ≡ (b && false)
no-clash true = refl
no-clash false = refl

pub clashes : (f : Formula) (types : Types) → ((name : List ℕ) → types name ≡ types_of f name) → tree_type types f.tree ≡ Clash → false ≡ is_typed f
clashes f types same h = no-clash (are_bound types f.tree) ∙ sym (ap (λ p. are_bound types f.tree && has_type p) h) ∙ typed-in f types same

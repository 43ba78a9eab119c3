-- Names that are bound to types one after another, and inputs that have tokens of their types.
use Rattle.std.proofs.Common.{◌≡◌, ℕ, ◌<◌, ◌+◌, List, length, get_or, drop, map, Bool, true, false, ◌&&◌, Option, Some, refl, sym, ap, ◌∙◌, add-one, if◌then◌else◌}
use Rattle.std.specs.Prelude.{bytes_eq, option_map}
use Rattle.pt_meaning.specs.Basics.{Streams}
use Rattle.pt_value.specs.Token.{value_of}
use Rattle.pt_value.specs.declared.token.Token.{Token}
use Rattle.pt_datatypes.specs.Datatype.{Datatype}
use Rattle.pt_datatypes.specs.Token.{type_of_value}
use Rattle.pt_types.specs.declared.ty.Ty.{Ty}
use Rattle.pt_types.specs.Ty.{type_of}
use Rattle.pt_types.specs.Entry.{typed_entry}
use Rattle.pt_language.specs.Types.{Types}
use Rattle.pt_firing.specs.Row.{token_at}
use Rattle.pt_firing.proofs.Named.{value-found, value-later}
use Rattle.pt_formula.specs.Formula.{parameter_types, with_type, with_types, is_of, are_of}
use Rattle.pt_formula.proofs.Formulas.{drop-one, first-dropped}
use Rattle.pt_flow_base.proofs.TypedPorts.{front}

-- ---- names bound to types, one after another

parameter_types-next : (es : List (List ℕ × Token)) (n : ℕ) (e : List ℕ × Token) → n < length es → e ≡ get_or es n e → (name : List ℕ) → parameter_types (drop n es) name ≡ with_type e.0 (type_of_value (value_of e.1)) (parameter_types (drop (n + 1) es)) name
parameter_types-next es n e short is name = by_test (bytes_eq e.0 name) refl
  where
    by_test : (b : Bool) → bytes_eq e.0 name ≡ b → parameter_types (drop n es) name ≡ (if b then Some (type_of_value (value_of e.1)) else parameter_types (drop (n + 1) es) name)
    by_test true h = ap (option_map (λ token. type_of_value (value_of token))) (value-found name es n e short is h)
    by_test false h = ap (option_map (λ token. type_of_value (value_of token))) (value-later name es n e short is h)

-- parameters that are bound from the last to the first
pub parameter_types-bound : (es : List (List ℕ × Token)) (n : ℕ) (e : List ℕ × Token) (name : List ℕ) (t : Datatype) (s s' : Types) → n < length es → e ≡ get_or es n e → name ≡ e.0 → t ≡ type_of_value (value_of e.1) → ((other : List ℕ) → s' other ≡ with_type name t s other) →
    ((other : List ℕ) → s other ≡ parameter_types (drop (n + 1) es) other) → (other : List ℕ) → s' other ≡ parameter_types (drop n es) other
parameter_types-bound es n e name t s s' short is named typed bound rest other =
    bound other ∙ (λ i. with_type (named i) (typed i) (λ m. rest m i) other) ∙ sym (parameter_types-next es n e short is other)

-- an input that is bound leaves the later ones to bind
pub types-bound : (es : List (List ℕ × Ty)) (n : ℕ) (e : List ℕ × Ty) (name : List ℕ) (t : Datatype) (s s' : Types) → n < length es → e ≡ get_or es n e → name ≡ e.0 → t ≡ type_of e.1 → ((other : List ℕ) → s' other ≡ with_type name t s other) →
    (other : List ℕ) → with_types (map typed_entry (drop (n + 1) es)) s' other ≡ with_types (map typed_entry (drop n es)) s other
types-bound es n e name t s s' short is named typed bound other =
    (λ i. with_types (map typed_entry (drop (n + 1) es)) (λ m. bound m i) other) ∙ (λ i. with_types (map typed_entry (drop (n + 1) es)) (with_type (named i) (typed i) s) other) ∙ sym (ap (λ xs. with_types (map typed_entry xs) s other) (front es n e short is))

-- ---- inputs that have tokens of their types, one after another

pub are_of-next : (es : List (List ℕ × Ty)) (X : Streams Token) (n : ℕ) (e : List ℕ × Ty) → n < length es → e ≡ get_or es n e → are_of (map typed_entry (drop n es)) (drop n X) ≡ (is_of (type_of e.1) (token_at X n) && are_of (map typed_entry (drop (n + 1) es)) (drop (n + 1) X))
are_of-next es X n e short is =
    ap (λ xs. are_of (map typed_entry xs) (drop n X)) (front es n e short is)
    ∙ ap (λ o. is_of (type_of e.1) o && are_of (map typed_entry (drop (n + 1) es)) (drop 1 (drop n X))) (first-dropped X n)
    ∙ ap (λ Y. is_of (type_of e.1) (token_at X n) && are_of (map typed_entry (drop (n + 1) es)) Y) (drop-one X n ∙ ap (λ m. drop m X) (sym (add-one n)))

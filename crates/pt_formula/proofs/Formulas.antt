-- The names of an Expression, bound one after another.
use Rattle.std.proofs.Common.{◌≡◌, ℕ, ◌<◌, ◌+◌, zero, suc, List, [], ◌∷◌, length, get_or, drop, map, Bool, true, false, ◌||◌, Option, Some, refl, sym, ap, ◌∙◌, add-one, drop-cons, arith, if◌then◌else◌}
use Rattle.std.specs.Prelude.{bytes_eq, option_map}
use Rattle.pt_meaning.specs.Basics.{Streams}
use Rattle.pt_value.specs.Value.{Value}
use Rattle.pt_value.specs.Token.{value_of}
use Rattle.pt_value.specs.declared.token.Token.{Token}
use Rattle.pt_language.specs.Scope.{Scope}
use Rattle.pt_firing.specs.Row.{token_at}
use Rattle.pt_firing.proofs.Named.{value-found, value-later}
use Rattle.std.proofs.lemmas.List.{length-map}
use Rattle.std.proofs.Math.ListN.{get_or-map}
use Rattle.pt_datatypes.specs.Datatype.{Datatype}
use Rattle.pt_types.specs.declared.ty.Ty.{Ty}
use Rattle.pt_types.specs.Entry.{typed_entry}
use Rattle.pt_formula.specs.Formula.{names, parameters, with_name, with_inputs, is_among}

pub drop-one : {T : Type 0} (X : List T) (n : ℕ) → drop 1 (drop n X) ≡ drop (suc n) X
drop-one X zero = refl
drop-one [] (suc n) = refl
drop-one (x ∷ X) (suc n) = drop-one X n

pub first-dropped : (X : Streams Token) (n : ℕ) → token_at (drop n X) 0 ≡ token_at X n
first-dropped X zero = refl
first-dropped [] (suc n) = refl
first-dropped (xs ∷ X) (suc n) = first-dropped X n

-- the next name, and those behind it
pub inputs-next : (names : List (List ℕ)) (X : Streams Token) (n : ℕ) (name : List ℕ) (s : Scope) → n < length names → name ≡ get_or names n name →
    with_inputs (drop n names) (drop n X) s ≡ with_inputs (drop (n + 1) names) (drop (n + 1) X) (with_name name (option_map value_of (token_at X n)) s)
inputs-next names X n name s short is =
    ap (λ ns. with_inputs ns (drop n X) s) (drop-cons names n name short) ∙ ap (λ m. with_inputs (drop (suc n) names) (drop 1 (drop n X)) (with_name m (option_map value_of (token_at (drop n X) 0)) s)) (sym is) ∙ ap (λ Y. with_inputs (drop (suc n) names) Y (with_name name (option_map value_of (token_at (drop n X) 0)) s)) (drop-one X n)
    ∙ ap (λ t. with_inputs (drop (suc n) names) (drop (suc n) X) (with_name name (option_map value_of t) s)) (first-dropped X n) ∙ ap (λ m. with_inputs (drop m names) (drop m X) (with_name name (option_map value_of (token_at X n)) s)) (sym (add-one n))

neither : (a b : Bool) → a || b ≡ false → (a ≡ false) × (b ≡ false)
neither true b e = cc
neither false b e = (refl, e)

-- a name that isn't among some is none of them
pub among-apart : (other : List ℕ) (names : List (List ℕ)) (n : ℕ) (name : List ℕ) → n < length names → name ≡ get_or names n name → is_among other names ≡ false → bytes_eq name other ≡ false
among-apart other [] n name short is e = absurd (omega arith)
among-apart other (m ∷ names) zero name short is e = ap (λ k. bytes_eq k other) is ∙ (neither (bytes_eq m other) (is_among other names) e).0
among-apart other (m ∷ names) (suc n) name short is e = among-apart other names n name (omega arith) is (neither (bytes_eq m other) (is_among other names) e).1

-- inputs are bound over whatever they were bound to before
pub inputs-over : (names : List (List ℕ)) (X : Streams Token) (s t : Scope) → ((name : List ℕ) → is_among name names ≡ false → s name ≡ t name) → (name : List ℕ) → with_inputs names X s name ≡ with_inputs names X t name
inputs-over [] X s t same name = same name refl
inputs-over (n ∷ names) X s t same name = inputs-over names (drop 1 X) (with_name n held s) (with_name n held t) under name
  where
    held : Option Value
    held = option_map value_of (token_at X 0)

    by_test : (other : List ℕ) (b : Bool) → bytes_eq n other ≡ b → is_among other names ≡ false → (if b then Some held else s other) ≡ (if b then Some held else t other)
    by_test other true e apart = refl
    by_test other false e apart = same other (ap (λ b. b || is_among other names) e ∙ apart)

    under : (other : List ℕ) → is_among other names ≡ false → with_name n held s other ≡ with_name n held t other
    under other apart = by_test other (bytes_eq n other) refl apart

-- the parameters from one on
pub parameters-next : (es : List (List ℕ × Token)) (n : ℕ) (e : List ℕ × Token) → n < length es → e ≡ get_or es n e → (name : List ℕ) → parameters (drop n es) name ≡ with_name e.0 (Some (value_of e.1)) (parameters (drop (n + 1) es)) name
parameters-next es n e short is name = by_test (bytes_eq e.0 name) refl
  where
    by_test : (b : Bool) → bytes_eq e.0 name ≡ b → parameters (drop n es) name ≡ (if b then Some (Some (value_of e.1)) else parameters (drop (n + 1) es) name)
    by_test true h = ap (option_map (λ token. Some (value_of token))) (value-found name es n e short is h)
    by_test false h = ap (option_map (λ token. Some (value_of token))) (value-later name es n e short is h)

-- parameters that are bound from the last to the first
pub parameters-bound : (es : List (List ℕ × Token)) (n : ℕ) (e : List ℕ × Token) (name : List ℕ) (t : Token) (s s' : Scope) → n < length es → e ≡ get_or es n e → name ≡ e.0 → t ≡ e.1 → ((other : List ℕ) → s' other ≡ with_name name (Some (value_of t)) s other) →
    ((other : List ℕ) → s other ≡ parameters (drop (n + 1) es) other) → (other : List ℕ) → s' other ≡ parameters (drop n es) other
parameters-bound es n e name t s s' short is named held bound rest other =
    bound other ∙ (λ i. with_name (named i) (Some (value_of (held i))) (λ m. rest m i) other) ∙ sym (parameters-next es n e short is other)

-- an input that is bound leaves the later ones to bind
pub inputs-bound : (names : List (List ℕ)) (X : Streams Token) (n : ℕ) (e name : List ℕ) (s s' : Scope) (v : Option Token) → n < length names → e ≡ get_or names n e → name ≡ e → v ≡ token_at X n → ((other : List ℕ) → s' other ≡ with_name name (option_map value_of v) s other) →
    (other : List ℕ) → with_inputs (drop (n + 1) names) (drop (n + 1) X) s' other ≡ with_inputs (drop n names) (drop n X) s other
inputs-bound names X n e name s s' v short is named held bound other =
    (λ i. with_inputs (drop (n + 1) names) (drop (n + 1) X) (λ m. bound m i) other) ∙ (λ i. with_inputs (drop (n + 1) names) (drop (n + 1) X) (with_name (named i) (option_map value_of (held i)) s) other) ∙ sym (λ i. inputs-next names X n e s short is i other)

pub others-bound : (names : List (List ℕ)) (n : ℕ) (e name : List ℕ) (s s' : Scope) (v : Option Value) → n < length names → e ≡ get_or names n e → name ≡ e → ((other : List ℕ) → s' other ≡ with_name name v s other) → (other : List ℕ) → is_among other names ≡ false → s' other ≡ s other
others-bound names n e name s s' v short is named bound other apart =
    bound other ∙ ap (λ m. with_name m v s other) named ∙ ap (λ b. if b then Some v else s other) (among-apart other names n e short is apart)

-- a name of an entry, among those of all
pub name-at : (es : List (List ℕ × Ty)) (n : ℕ) (e : List ℕ × Ty) → e ≡ get_or es n e → e.0 ≡ get_or (names (map typed_entry es)) n e.0
name-at es n e is = ap (λ (p : List ℕ × Ty). p.0) is ∙ sym (get_or-map (λ (p : List ℕ × Datatype). p.0) (map typed_entry es) n (typed_entry e) ∙ ap (λ (p : List ℕ × Datatype). p.0) (get_or-map typed_entry es n e))

pub length-names : (es : List (List ℕ × Ty)) → length (names (map typed_entry es)) ≡ length es
length-names es = length-map (map typed_entry es) (λ (p : List ℕ × Datatype). p.0) ∙ length-map es typed_entry

-- Names bound one after another.
use Rattle.std.proofs.Common.{◌≡◌, ℕ, zero, suc, ◌<◌, ◌≤◌, ◌+◌, List, [], ◌∷◌, length, get_or, drop, map, Bool, true, false, ◌||◌, Option, Some, None, refl, sym, ap, ◌∙◌, add-one, arith, if◌then◌else◌}
use Rattle.std.specs.Prelude.{bytes_eq}
use Rattle.pt_meaning.specs.Streams.{at, get}
use Rattle.pt_meaning.specs.Transitions.{last_of, input_in, output_in, variable_in}
use Rattle.pt_meaning.specs.Transitions.{Scope as Reads}
use Rattle.pt_value.specs.Value.{Value}
use Rattle.pt_value.specs.declared.token.Token.{Token}
use Rattle.pt_datatypes.specs.Datatype.{Datatype}
use Rattle.pt_types.specs.declared.ty.Ty.{Ty}
use Rattle.pt_types.specs.Ty.{type_of}
use Rattle.pt_types.specs.Entry.{typed_entry}
use Rattle.pt_language.specs.Scope.{Scope}
use Rattle.pt_flow_base.proofs.TypedPorts.{front}
use Rattle.pt_formula.specs.Formula.{names, parameters, with_name, is_among}
use Rattle.pt_formula.proofs.Formulas.{others-bound, name-at, length-names}
use Rattle.pt_chart.specs.Machine.{NameTable}
use Rattle.pt_chart.specs.Names.{of_type, with_names, over, names_in, is_named, HasParameters}
use Rattle.std.specs.List.{slice_get}

-- a name that is bound leaves the later ones to bind
pub names-bound : (es : List (List ℕ × Ty)) (read : ℕ → Option Token) (n : ℕ) (e : List ℕ × Ty) (name : List ℕ) (s s' : Scope) (v : Option Value) → n < length es → e ≡ get_or es n e → name ≡ e.0 → v ≡ of_type (type_of e.1) (read n) → ((other : List ℕ) → s' other ≡ with_name name v s other) →
    (other : List ℕ) → with_names (n + 1) (map typed_entry (drop (n + 1) es)) read s' other ≡ with_names n (map typed_entry (drop n es)) read s other
names-bound es read n e name s s' v short is named held bound other =
    (λ i. with_names (n + 1) (map typed_entry (drop (n + 1) es)) read (λ m. bound m i) other)
    ∙ (λ i. with_names (n + 1) (map typed_entry (drop (n + 1) es)) read (with_name (named i) (held i) s) other)
    ∙ ap (λ k. with_names k (map typed_entry (drop (n + 1) es)) read (with_name e.0 (of_type (type_of e.1) (read n)) s) other) (add-one n)
    ∙ sym (ap (λ xs. with_names n (map typed_entry xs) read s other) (front es n e short is))

-- others stand for what they stood for
pub others-kept : (es : List (List ℕ × Ty)) (n : ℕ) (e : List ℕ × Ty) (name : List ℕ) (s s' : Scope) (v : Option Value) → n < length es → e ≡ get_or es n e → name ≡ e.0 → ((other : List ℕ) → s' other ≡ with_name name v s other) →
    (other : List ℕ) → is_among other (names (map typed_entry es)) ≡ false → s' other ≡ s other
others-kept es n e name s s' v short is named bound other apart =
    let within : n < length (names (map typed_entry es)) = omega (arith, short, length-names es) in
    others-bound (names (map typed_entry es)) n e.0 name s s' v within (name-at es n e is) named bound other apart

pub nothing-bound : (es : List (List ℕ × Ty)) (read : ℕ → Option Token) (n k : ℕ) (s : Scope) (other : List ℕ) → length es ≤ n → with_names k (map typed_entry (drop n es)) read s other ≡ s other
nothing-bound es read n k s other past = ap (λ xs. with_names k (map typed_entry xs) read s other) (none es n past)
  where
    none : (xs : List (List ℕ × Ty)) (m : ℕ) → length xs ≤ m → drop m xs ≡ []
    none [] zero h = refl
    none [] (suc m) h = refl
    none (x ∷ xs) zero h = absurd (omega (arith, h))
    none (x ∷ xs) (suc m) h = none xs m (omega (arith, h))

-- ---- names over whatever they stood for

over-one : (rest : List ℕ → Bool) (k : ℕ) (es : List (List ℕ × Datatype)) (read : ℕ → Option Token) (s t : Scope) → ((name : List ℕ) → is_among name (names es) ≡ false → rest name ≡ false → s name ≡ t name) →
    (name : List ℕ) → rest name ≡ false → with_names k es read s name ≡ with_names k es read t name
over-one rest k [] read s t same name apart = same name refl apart
over-one rest k (e ∷ es) read s t same name apart = over-one rest (suc k) es read (with_name e.0 held s) (with_name e.0 held t) under name apart
  where
    held : Option Value
    held = of_type e.1 (read k)

    by_test : (other : List ℕ) (b : Bool) → bytes_eq e.0 other ≡ b → is_among other (names es) ≡ false → rest other ≡ false → (if b then Some held else s other) ≡ (if b then Some held else t other)
    by_test other true h among out = refl
    by_test other false h among out = same other (ap (λ b. b || is_among other (names es)) h ∙ among) out

    under : (other : List ℕ) → is_among other (names es) ≡ false → rest other ≡ false → with_name e.0 held s other ≡ with_name e.0 held t other
    under other among out = by_test other (bytes_eq e.0 other) refl among out

both-false : (a b c : Bool) → a ≡ false → b ≡ false → c ≡ false → (a || (b || c)) ≡ false
both-false a b c p q r = ap (λ x. x || (b || c)) p ∙ ap (λ x. x || c) q ∙ r

pub over-parameters : (table : NameTable) (reads : Reads Token) (s s' : Scope) → HasParameters table s → ((name : List ℕ) → s' name ≡ over table reads s name) → s' ≡ names_in table reads
over-parameters table reads s s' has bound = λ i name. (bound name ∙ all name) i
  where
    base : Scope
    base = parameters table.parameters

    is_input : List ℕ → Bool
    is_input name = is_among name (names table.inputs)

    is_output : List ℕ → Bool
    is_output name = is_among name (names table.outputs)

    never : List ℕ → Bool
    never name = false

    or-left : (a b : Bool) → (a || b) ≡ false → a ≡ false
    or-left true b e = e
    or-left false b e = refl

    or-right : (a b : Bool) → (a || b) ≡ false → b ≡ false
    or-right true b e = absurd (cc)
    or-right false b e = e

    one : (name : List ℕ) → (is_output name || is_input name) ≡ false → with_names 0 table.variables (variable_in reads) s name ≡ with_names 0 table.variables (variable_in reads) base name
    one = over-one (λ name. is_output name || is_input name) 0 table.variables (variable_in reads) s base (λ name v rest. has name (both-false (is_among name (names table.variables)) (is_output name) (is_input name) v (or-left (is_output name) (is_input name) rest) (or-right (is_output name) (is_input name) rest)))

    or-both : (a b : Bool) → a ≡ false → b ≡ false → (a || b) ≡ false
    or-both a b p q = ap (λ x. x || b) p ∙ q

    two : (name : List ℕ) → is_input name ≡ false → with_names 0 table.outputs (output_in reads) (with_names 0 table.variables (variable_in reads) s) name ≡ with_names 0 table.outputs (output_in reads) (with_names 0 table.variables (variable_in reads) base) name
    two = over-one is_input 0 table.outputs (output_in reads) (with_names 0 table.variables (variable_in reads) s) (with_names 0 table.variables (variable_in reads) base) (λ name o i. one name (or-both (is_output name) (is_input name) o i))

    all : (name : List ℕ) → over table reads s name ≡ names_in table reads name
    all name = over-one never 0 table.inputs (input_in reads) (with_names 0 table.outputs (output_in reads) (with_names 0 table.variables (variable_in reads) s)) (with_names 0 table.outputs (output_in reads) (with_names 0 table.variables (variable_in reads) base)) (λ other i n. two other i) name refl

-- three bindings, one after another
pub all-bound : (table : NameTable) (reads : Reads Token) (s s1 s2 s3 : Scope) → ((name : List ℕ) → s1 name ≡ with_names 0 table.variables (variable_in reads) s name) → ((name : List ℕ) → s2 name ≡ with_names 0 table.outputs (output_in reads) s1 name) →
    ((name : List ℕ) → s3 name ≡ with_names 0 table.inputs (input_in reads) s2 name) → (name : List ℕ) → s3 name ≡ over table reads s name
all-bound table reads s s1 s2 s3 a b c name =
    c name
    ∙ (λ i. with_names 0 table.inputs (input_in reads) (λ m. b m i) name)
    ∙ (λ i. with_names 0 table.inputs (input_in reads) (with_names 0 table.outputs (output_in reads) (λ m. a m i)) name)

-- ---- what is read

pub last-index : {T : Type 0} (ts : List T) (n : ℕ) → n + 1 ≡ length ts → slice_get ts n ≡ last_of ts
last-index [] n e = absurd (omega (arith, e))
last-index (t ∷ []) zero e = refl
last-index (t ∷ []) (suc n) e = absurd (omega (arith, e))
last-index (t ∷ u ∷ ts) zero e = absurd (omega (arith, e))
last-index (t ∷ u ∷ ts) (suc n) e = last-index (u ∷ ts) n (omega (arith, e))

pub at-there : {T : Type 0} (X : List (List T)) (n : ℕ) (x : List T) → n < length X → x ≡ get_or X n x → x ≡ at X n
at-there [] n x short is = absurd (omega (arith, short))
at-there (y ∷ X) zero x short is = is
at-there (y ∷ X) (suc n) x short is = at-there X n x (omega (arith, short)) is

pub at-past : {T : Type 0} (X : List (List T)) (n : ℕ) → length X ≤ n → [] ≡ at X n
at-past [] n h = refl
at-past (x ∷ X) zero h = absurd (omega (arith, h))
at-past (x ∷ X) (suc n) h = at-past X n (omega (arith, h))

pub get-there : {T : Type 0} (xs : List T) (n : ℕ) (x : T) → n < length xs → x ≡ get_or xs n x → Some x ≡ get xs n
get-there [] n x short is = absurd (omega (arith, short))
get-there (y ∷ xs) zero x short is = ap (λ z. Some z) is
get-there (y ∷ xs) (suc n) x short is = get-there xs n x (omega (arith, short)) is

pub get-past : {T : Type 0} (xs : List T) (n : ℕ) → length xs ≤ n → None ≡ get xs n
get-past [] n h = refl
get-past (x ∷ xs) zero h = absurd (omega (arith, h))
get-past (x ∷ xs) (suc n) h = get-past xs n (omega (arith, h))

-- a name that is neither that of a port nor of a Variable
pub apart-parts : (table : NameTable) (name : List ℕ) → is_named table name ≡ false → (is_among name (names table.variables) ≡ false) × (is_among name (names table.outputs) ≡ false) × (is_among name (names table.inputs) ≡ false)
apart-parts table name apart = (
  first (is_among name (names table.variables)) (is_among name (names table.outputs) || is_among name (names table.inputs)) apart,
  first (is_among name (names table.outputs)) (is_among name (names table.inputs)) (later (is_among name (names table.variables)) (is_among name (names table.outputs) || is_among name (names table.inputs)) apart),
  later (is_among name (names table.outputs)) (is_among name (names table.inputs)) (later (is_among name (names table.variables)) (is_among name (names table.outputs) || is_among name (names table.inputs)) apart),
)
  where
    first : (a b : Bool) → (a || b) ≡ false → a ≡ false
    first true b e = e
    first false b e = refl

    later : (a b : Bool) → (a || b) ≡ false → b ≡ false
    later true b e = absurd (cc)
    later false b e = e
